-- How frames are read from segment files.
use Rattle.std.specs.Prelude.{◌≡◌, ◌<◌, ◌≤◌, ◌+◌, ◌-◌, ℕ, Bool, IsTrue, List, Option, Some, None, length, take, drop, unsigned_abs}
use Rattle.frame_core.specs.declared.frame.Frame.{Frame}
use Rattle.frame_core.specs.declared.frame.FrameKind.{FrameKind}
use Rattle.frame_core.specs.declared.frame.FrameKind.TheVariants.{Pad, Message, Heartbeat}
use Rattle.frame_core.specs.declared.refusal.Refusal.{Refusal}
use Rattle.frame_core.specs.declared.refusal.Refusal.TheVariants.{DeviceFault, NoMemory}

abbrev pub size_of : FrameKind → Frame → ℕ
size_of Pad header = 32
size_of Message header = unsigned_abs header.length
size_of Heartbeat header = 32

-- how many bytes the encoding of a frame with this header has
abbrev pub encoded_size : Frame → ℕ
encoded_size header = size_of header.kind header

-- a fault of the disk, or want of memory
abbrev pub IsFaultOrMemory : Refusal → Type 0
IsFaultOrMemory DeviceFault = Unit {0}
IsFaultOrMemory NoMemory = Unit {0}
IsFaultOrMemory _ = ⊥

-- the bytes are what stands in a file from an offset on: as many as were asked for, or as there are
pub record AreReadAt (file : List ℕ) (offset : ℕ) (bytes : List ℕ) : Type 0 where
  pub asked : ℕ
  pub are : bytes ≡ take asked (drop offset file)

-- the payload of a frame whose encoding begins at an offset of a file and has this size; none where the file ends before
abbrev pub TellsPayload : List ℕ → ℕ → ℕ → Option (List ℕ) → Type 0
TellsPayload file offset size None = length file < offset + size
TellsPayload file offset size (Some payload) =
    (offset + size ≤ length file) × (payload ≡ take (size - 32) (drop 32 (drop offset file)))

-- why none is told: memory is wanted for a payload, and for one that stands there whole, where the disk obeys the crash
-- model
abbrev pub RefusesPayload : Bool → List ℕ → ℕ → ℕ → Refusal → Type 0
RefusesPayload obeys file offset size DeviceFault = Unit {0}
RefusesPayload obeys file offset size NoMemory = (32 < size) × (IsTrue obeys → offset + size ≤ length file)
RefusesPayload obeys file offset size _ = ⊥
