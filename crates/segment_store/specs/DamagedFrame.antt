-- Which frame a segment file shows at a position: docs/STORAGE.md, "Damaged frames".
use Rattle.std.specs.Prelude.{◌≡◌, ◌<◌, ◌+◌, ◌+ℤ◌, ◌&&◌, ◌==◌, ℕ, ℤ, pos, Bool, true, false, IsTrue, Option, Some, None, length, int_le, unsigned_abs}
use Rattle.std.specs.Ordering.{int_eq}
use Rattle.disk_core.specs.DiskImage.{DiskImage, bytes_of}
use Rattle.disk_core.specs.Standing.{Holds}
use Rattle.frame_core.specs.declared.frame.Frame.{Frame}
use Rattle.frame_core.specs.declared.frame.FrameKind.{FrameKind}
use Rattle.frame_core.specs.declared.frame.FrameKind.TheVariants.{Pad, Message, Heartbeat}
use Rattle.frame_core.specs.declared.geometry.Geometry.{Geometry}
use Rattle.frame_core.specs.declared.refusal.Refusal.{Refusal}
use Rattle.frame_core.specs.declared.refusal.Refusal.TheVariants.{Damaged, DeviceFault, NoMemory}
use Rattle.frame_core.specs.FrameEncoding.{IsEncodable, aligned_length, encoded}
use Rattle.frame_core.specs.Position.{frame_position}
use Rattle.segment_store.specs.declared.layout.Layout.{Layout}
use Rattle.segment_store.specs.Layout.{file_of, offset_of}

-- what a segment file holds: data frames and pads
abbrev pub is_stored : FrameKind → Bool
is_stored Pad = true
is_stored Message = true
is_stored Heartbeat = false

-- the position is this one
abbrev pub is_at : ℕ → Option ℕ → Bool
is_at position None = false
is_at position (Some other) = position == other

-- the frame is of the recording's stream and of this position, and ends inside its term and at or before a limit
unfoldable pub belongs_at : Layout → Geometry → ℕ → ℤ → Frame → Bool
belongs_at l g position limit f =
    is_stored f.kind && int_eq f.stream_id l.stream_id && is_at position (frame_position g f)
    && int_le (f.term_offset +ℤ pos (aligned_length f)) g.term_length
    && int_le (pos (position + aligned_length f)) limit

-- the frame whose encoding stands whole in the file of a position, and which belongs there
pub record ShowsFrame (image : DiskImage) (l : Layout) (g : Geometry) (limit : ℤ) (position : ℕ) (f : Frame) : Type 0 where
  pub encodable : IsEncodable f
  pub stands : Holds (bytes_of (image (file_of l position))) (offset_of l position) (encoded f)
  pub belongs : belongs_at l g position limit f ≡ true

-- no frame belongs there that stands whole in the file
abbrev pub IsDamaged : DiskImage → Layout → Geometry → ℤ → ℕ → Type 0
IsDamaged image l g limit position = (f : Frame) → ShowsFrame image l g limit position f → ⊥

-- a frame is shown there that carries something
abbrev pub ShowsPayload : DiskImage → Layout → Geometry → ℤ → ℕ → Type 0
ShowsPayload image l g limit position = (f : Frame) × ShowsFrame image l g limit position f × (0 < length f.payload)

-- why no frame is read at a position. Memory is wanted only for the payload of a frame that is shown there; this, and the
-- damage, are promised where the disk obeys the crash model
abbrev pub RefusesFrame : Bool → DiskImage → Layout → Geometry → ℤ → ℤ → Refusal → Type 0
RefusesFrame obeys image l g limit position DeviceFault = Unit {0}
RefusesFrame obeys image l g limit position NoMemory = IsTrue obeys → ShowsPayload image l g limit (unsigned_abs position)
RefusesFrame obeys image l g limit position (Damaged recording at) =
    (recording ≡ l.recording) × (at ≡ position) × (IsTrue obeys → IsDamaged image l g limit (unsigned_abs position))
RefusesFrame obeys image l g limit position _ = ⊥
