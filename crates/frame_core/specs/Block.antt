-- Blocks: frames of one term that follow one another, or one pad. docs/PROTOCOL.md, "Blocks".
use Rattle.std.specs.Prelude.{◌≡◌, ◌+◌, ◌≤◌, ◌≤ℤ◌, ◌+ℤ◌, ◌&&◌, ◌⊎◌, ℕ, ℤ, pos, Bool, true, false, List, [], ◌∷◌, int_le, Option, Some, None, if◌then◌else◌}
use Rattle.std.specs.Ordering.{int_eq}
use Rattle.frame_core.specs.declared.frame.FrameKind.{FrameKind}
use Rattle.frame_core.specs.declared.frame.FrameKind.TheVariants.{Pad, Message, Heartbeat}
use Rattle.frame_core.specs.declared.frame.Frame.{Frame}
use Rattle.frame_core.specs.declared.block.Block.{Block}
use Rattle.frame_core.specs.declared.block.BlockIds.{BlockIds}
use Rattle.frame_core.specs.declared.block.Publication.{Publication}
use Rattle.frame_core.specs.declared.geometry.Geometry.{Geometry}
use Rattle.frame_core.specs.declared.refusal.Refusal.{Refusal}
use Rattle.frame_core.specs.declared.refusal.Refusal.TheVariants.{NoMemory, BadFrame, BadBlock}
use Rattle.frame_core.specs.FrameEncoding.{IsEncodable, aligned_length}
use Rattle.frame_core.specs.Position.{HasPosition}
use Rattle.frame_core.specs.Datagram.{IsDatagram, IsBadAt}

abbrev pub is_message : FrameKind → Bool
is_message Pad = false
is_message Message = true
is_message Heartbeat = false

-- of the same term, session and stream
unfoldable pub has_ids : BlockIds → Frame → Bool
has_ids p f = int_eq f.term_id p.term_id && int_eq f.session_id p.session_id && int_eq f.stream_id p.stream_id

-- a message with the ids at the offset, no longer than the MTU
unfoldable pub is_part : BlockIds → ℕ → Frame → Bool
is_part p offset f = is_message f.kind && int_eq f.term_offset (pos offset) && has_ids p f && int_le f.length p.mtu

-- where messages end that follow one another from an offset
abbrev pub run_end : BlockIds → ℕ → List Frame → Option ℕ
run_end p offset [] = Some offset
run_end p offset (f ∷ fs) = if is_part p offset f then run_end p (offset + aligned_length f) fs else None

-- each frame has an encoding
abbrev pub AreEncodable : List Frame → Type 0
AreEncodable [] = Unit {0}
AreEncodable (f ∷ fs) = IsEncodable f × AreEncodable fs

-- one pad inside its term
pub record IsPadBlock (g : Geometry) (p : BlockIds) (f : Frame) (fs : List Frame) : Type 0 where
  pub alone : fs ≡ []
  pub kind : f.kind ≡ Pad
  pub ids : has_ids p f ≡ true
  pub inside : (f.term_offset +ℤ pos (aligned_length f)) ≤ℤ g.term_length

-- messages that follow one another inside their term, and cover at most 65,536 bytes
pub record IsMessageBlock (g : Geometry) (p : BlockIds) (f : Frame) (fs : List Frame) : Type 0 where
  pub offset : ℕ
  pub begins : f.term_offset ≡ pos offset
  pub end : ℕ
  pub ends : run_end p offset (f ∷ fs) ≡ Some end
  pub inside : pos end ≤ℤ g.term_length
  pub covers : end ≤ offset + 65536

-- what a publication's blocks that begin with this frame have in common
abbrev pub block_ids : Geometry → Publication → Frame → BlockIds
block_ids g publication f = record { term_id = f.term_id; session_id = publication.session_id; stream_id = publication.stream_id; mtu = g.mtu }

-- frames of a publication that are a block at a position
abbrev pub AreBlockOf : Geometry → Publication → List Frame → ℤ → Type 0
AreBlockOf g publication [] position = ⊥
AreBlockOf g publication (f ∷ fs) position =
    let p : BlockIds = block_ids g publication f in
    HasPosition g f.term_id f.term_offset position × AreEncodable (f ∷ fs) × (IsPadBlock g p f fs ⊎ IsMessageBlock g p f fs)

-- a block of a publication
abbrev pub IsBlock : Geometry → Publication → Block → Type 0
IsBlock g publication b = AreBlockOf g publication b.frames b.position

-- the publication that a frame is of
abbrev pub publication_of : Frame → Publication
publication_of f = record { session_id = f.session_id; stream_id = f.stream_id }

-- frames of one publication, whichever it is, that are a block at a position
abbrev pub AreBlock : Geometry → List Frame → ℤ → Type 0
AreBlock g [] position = ⊥
AreBlock g (f ∷ fs) position = AreBlockOf g (publication_of f) (f ∷ fs) position

-- how many bytes of their stream frames cover
abbrev pub covered : List Frame → ℕ
covered [] = 0
covered (f ∷ fs) = aligned_length f + covered fs

-- where a block ends
abbrev pub end_position : Block → ℤ
end_position b = b.position +ℤ pos (covered b.frames)

-- why bytes are no block
abbrev pub IsBlockRefusal : Geometry → List ℕ → Refusal → Type 0
IsBlockRefusal g bytes NoMemory = Unit {0}
IsBlockRefusal g bytes (BadFrame offset) = IsBadAt bytes offset
IsBlockRefusal g bytes BadBlock = (fs : List Frame) × IsDatagram bytes fs × ((position : ℤ) → AreBlock g fs position → ⊥)
IsBlockRefusal g bytes _ = ⊥
