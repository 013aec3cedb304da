-- What is read of a recording, whatever its files hold: docs/CONTROL.md, "Replays"; docs/STORAGE.md, "Boundaries" and "Damaged frames".
use Rattle.std.specs.Prelude.{◌≡◌, ◌⊎◌, ◌-◌, ◌%◌, ◌<◌, ◌<ℤ◌, ◌≤ℤ◌, ℕ, ℤ, pos, max, Bool, true, false, IsTrue, List, length, unsigned_abs}
use Rattle.disk_core.specs.DiskImage.{DiskImage}
use Rattle.frame_core.specs.declared.frame.Frame.{Frame}
use Rattle.frame_core.specs.declared.geometry.Geometry.{Geometry}
use Rattle.frame_core.specs.declared.refusal.Refusal.{Refusal}
use Rattle.frame_core.specs.declared.refusal.Refusal.TheVariants.{Damaged, DeviceFault, NoMemory}
use Rattle.segment_store.specs.declared.layout.Layout.{Layout}
use Rattle.segment_store.specs.Boundary.{BreaksAt, BreaksFrom, IsChain, IsReached, RefusesReached}
use Rattle.segment_store.specs.DamagedFrame.{IsDamaged}
use Rattle.replay_core.specs.Poll.{ArePolled}
use Rattle.archive_model.specs.declared.descriptor.Descriptor.{Descriptor}
use Rattle.archive_model.specs.declared.registration.Registration.{Registration}
use Rattle.archive_model.specs.declared.reply.PolledFrame.{PolledFrame}
use Rattle.archive_model.specs.Replay.{placed}
use Rattle.archive_model.specs.State.{geometry_of}
use Rattle.control_core.specs.declared.callers.OpenReplay.{OpenReplay}
use Rattle.recording_reads.specs.Recording.{layout_of}

-- ---- counting

-- The frames of a recording are shown from its start to its recorded position, one after another, and are so many.
pub record HasFrames (image : DiskImage) (g : Registration) (count : ℤ) : Type 0 where
  pub frames : List Frame
  pub chain : IsChain image (layout_of g.descriptor) (geometry_of g.descriptor) g.recorded (unsigned_abs g.descriptor.start_position) frames (unsigned_abs g.recorded)
  pub is : count ≡ pos (length frames)

-- why the frames of a recording are not counted: they break off, before the recorded position, at the one that is told;
-- that is promised where the disk obeys the crash model
abbrev pub RefusesCount : Bool → DiskImage → Registration → Refusal → Type 0
RefusesCount obeys image g DeviceFault = Unit {0}
RefusesCount obeys image g NoMemory = Unit {0}
RefusesCount obeys image g (Damaged recording at) =
    (recording ≡ g.descriptor.recording)
    × (IsTrue obeys → (n : ℕ) × (at ≡ pos n) × BreaksAt image (layout_of g.descriptor) (geometry_of g.descriptor) g.recorded g.recorded n)
RefusesCount obeys image g _ = ⊥

-- ---- polls

-- The frames that a replay is given are shown from its next position to another, each with where it begins: as many as are
-- asked for, or as there are before its bound.
pub record GivesShown (image : DiskImage) (g : Registration) (replay : OpenReplay) (most : ℤ) (frames : List PolledFrame) (end : ℕ) : Type 0 where
  pub given : List Frame
  pub polled : ArePolled image (layout_of g.descriptor) (geometry_of g.descriptor) g.recorded replay.bound (unsigned_abs most) (unsigned_abs replay.next) given end
  pub placed : frames ≡ placed replay.next given

-- the frames break off where one is asked for: fewer were given, and none stands at this position, which lies before the
-- bound and the recorded position
pub record PollBreaksOff (image : DiskImage) (l : Layout) (g : Geometry) (recorded bound : ℤ) (most from : ℕ) (at : ℤ) : Type 0 where
  pub frames : List Frame
  pub to : ℕ
  pub stand : IsChain image l g recorded from frames to
  pub fewer : length frames < most
  pub is : at ≡ pos to
  pub before : pos to <ℤ bound
  pub within : pos to <ℤ recorded
  pub damaged : IsDamaged image l g recorded to

-- why no frames are given: the damage is promised where the disk obeys the crash model
abbrev pub RefusesPoll : Bool → DiskImage → Layout → Geometry → ℤ → ℤ → ℕ → ℕ → Refusal → Type 0
RefusesPoll obeys image l g recorded bound most from DeviceFault = Unit {0}
RefusesPoll obeys image l g recorded bound most from NoMemory = Unit {0}
RefusesPoll obeys image l g recorded bound most from (Damaged recording at) =
    (recording ≡ l.recording) × (IsTrue obeys → PollBreaksOff image l g recorded bound most from at)
RefusesPoll obeys image l g recorded bound most from _ = ⊥

-- ---- boundaries

-- where the term of a position begins, or the recording where that is later: no frame crosses the end of a term, so a frame
-- ends there, or the recording begins
abbrev pub term_start : Descriptor → ℕ → ℕ
term_start d position = max (unsigned_abs d.start_position) (position - position % unsigned_abs d.term_length)

-- A frame of a recording begins or ends at a position: it is the recorded one, or the frames of its term that are shown one
-- after another, none past the recorded position, reach it.
pub record IsBoundaryIn (image : DiskImage) (g : Registration) (position : ℤ) : Type 0 where
  pub from_start : g.descriptor.start_position ≤ℤ position
  pub within : position ≤ℤ g.recorded
  pub reached : (position ≡ g.recorded)
      ⊎ IsReached image (layout_of g.descriptor) (geometry_of g.descriptor) g.recorded (term_start g.descriptor (unsigned_abs position)) position

-- the frames of a position's term break off before it
abbrev pub BreaksIn : DiskImage → Registration → ℤ → ℕ → Type 0
BreaksIn image g position at =
    BreaksFrom image (layout_of g.descriptor) (geometry_of g.descriptor) g.recorded (term_start g.descriptor (unsigned_abs position)) position at

-- what is told of a position
abbrev pub TellsBoundaryIn : DiskImage → Registration → ℤ → Bool → Type 0
TellsBoundaryIn image g position true = IsBoundaryIn image g position
TellsBoundaryIn image g position false = (IsBoundaryIn image g position → ⊥) × ((at : ℕ) → BreaksIn image g position at → ⊥)

-- why nothing is told: the frames of its term break off before it
abbrev pub RefusesBoundaryIn : Bool → DiskImage → Registration → ℤ → Refusal → Type 0
RefusesBoundaryIn obeys image g position refusal =
    RefusesReached obeys image (layout_of g.descriptor) (geometry_of g.descriptor) g.recorded (term_start g.descriptor (unsigned_abs position)) position refusal

-- Frames stand, whole, one after another from what is recorded up to a position, as they do once a settle up to there was
-- begun; or else they do not, or break off before it.
abbrev pub TellsWritten : DiskImage → Registration → ℤ → Bool → Type 0
TellsWritten image g position true = IsReached image (layout_of g.descriptor) (geometry_of g.descriptor) position (unsigned_abs g.recorded) position
TellsWritten image g position false =
    (IsReached image (layout_of g.descriptor) (geometry_of g.descriptor) position (unsigned_abs g.recorded) position → ⊥)
    ⊎ ((at : ℕ) × BreaksFrom image (layout_of g.descriptor) (geometry_of g.descriptor) position (unsigned_abs g.recorded) position at)
