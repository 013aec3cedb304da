-- Which frame stands in front of some bytes.
use Rattle.std.specs.Prelude.{◌≡◌, ℕ, min, List, ◌++◌, length}
use Rattle.frame_core.specs.declared.frame.FrameKind.{FrameKind}
use Rattle.frame_core.specs.declared.frame.FrameKind.TheVariants.{Pad, Message, Heartbeat}
use Rattle.frame_core.specs.declared.frame.Frame.{Frame}
use Rattle.frame_core.specs.FrameEncoding.{IsEncodable, encoded, aligned}

-- how many of the bytes a frame in front uses, by the length of its encoding
abbrev pub used_by : FrameKind → ℕ → ℕ → ℕ
used_by Pad size all = all
used_by Message size all = min (aligned size) all
used_by Heartbeat size all = size

-- the frame's encoding stands in front of the bytes, and it uses that many of them
pub record IsFront (bytes : List ℕ) (f : Frame) (used : ℕ) : Type 0 where
  pub encodable : IsEncodable f
  pub rest : List ℕ
  pub stands : bytes ≡ encoded f ++ rest
  pub uses : used ≡ used_by f.kind (length (encoded f)) (length bytes)
