-- What the book keeps of its recordings beside the state.
use Rattle.std.specs.Prelude.{◌≡◌, ◌<◌, ◌+ℤ◌, ℕ, ℤ, pos, List, filter, int_le, IsTrue}
use Rattle.frame_core.specs.declared.block.Block.{Block}
use Rattle.frame_core.specs.declared.frame.Frame.{Frame}
use Rattle.frame_core.specs.Block.{covered}
use Rattle.archive_model.specs.declared.registration.Change.{Change}
use Rattle.archive_model.specs.declared.registration.Change.TheVariants.{Settle, Stop, Extend, Truncate, PurgeSegments}
use Rattle.archive_model.specs.Keyed.{Rise}
use Rattle.archive_model.specs.Register.{changed_by, is_later_base}
use Rattle.archive_model.specs.State.{Recording, id_of, is_active, recorded_position, registration_of}
use Rattle.archive_model.specs.Numbered.{IsIndexOf}
use Rattle.archive_model.specs.Replay.{begins_frame, frames_in, placed}
use Rattle.archive_model.specs.Commands.{ends_by, frames_of}
use Rattle.archive_model.specs.Acceptance.{BookState, Continue}
use Rattle.archive_model.specs.Checks.{is_boundary_by}
use Rattle.archive_model.specs.WellFormed.{IsKept}

-- the recorded position is at hand, and the recording is as accepted commands leave it
pub record KeepsRecorded (r : Recording) (recorded : ℤ) : Type 0 where
  pub recorded_is : recorded ≡ recorded_position r
  pub kept : IsKept r

-- the ids rise from 0 on, and are below the next one
abbrev pub KeepsOrder : BookState → Type 0
KeepsOrder b = Rise id_of (pos 0) b.state.recordings b.state.next

-- the ids rise from 0 on
abbrev pub Rising : List Recording → Type 0
Rising rs = (next : ℤ) × Rise id_of (pos 0) rs next

-- what a change leaves of frames, the first of which begins at a position
abbrev pub left_by : Change → ℤ → List Frame → List Frame
left_by (Truncate position) start fs = frames_in (filter (ends_by position) (placed start fs))
left_by (PurgeSegments position) start fs = frames_in (filter (λ f. int_le position f.position) (placed start fs))
left_by (Settle position) start fs = fs
left_by (Stop timestamp) start fs = fs
left_by (Extend session_id) start fs = fs

-- what a change that adds no frame makes of a recording
abbrev pub made_of : Change → Recording → Recording
made_of c r = record { descriptor = (changed_by c (registration_of r)).descriptor; frames = left_by c r.descriptor.start_position r.frames }

-- a change that adds no frame may be made of a recording
abbrev pub MayChange : Recording → Change → Type 0
MayChange r (Settle position) = ⊥
MayChange r (Stop timestamp) = Unit {0}
MayChange r (Extend session_id) = Unit {0}
MayChange r (Truncate position) = IsTrue (is_boundary_by (begins_frame position r) position (registration_of r))
MayChange r (PurgeSegments position) = IsTrue (is_later_base position (registration_of r))

-- an accepted append: its blocks join the recording of the id, which stands at the index, and end at the position
pub record Joins (b : BookState) (id : ℤ) (blocks : List Block) (index : ℕ) (end : ℤ) : Type 0 where
  pub at : IsIndexOf id_of id b.state.recordings index
  pub active : IsTrue (is_active at.value)
  pub next : Continue at.value blocks
  pub room : b.counted < b.limit
  pub end_is : end ≡ recorded_position at.value +ℤ pos (covered (frames_of blocks))
