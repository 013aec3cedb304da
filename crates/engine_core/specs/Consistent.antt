-- What the engine keeps of an archive: docs/STORAGE.md, "Recovery".
use Rattle.std.specs.Prelude.{◌≡◌, ◌⊎◌, ◌+◌, ℕ, IsTrue, List, [], ◌∷◌, Some, None}
use Rattle.disk_core.specs.declared.file_id.FileId.{FileId}
use Rattle.disk_core.specs.DiskImage.{DiskImage, MayLeave, reads}
use Rattle.disk_core.specs.Life.{Life}
use Rattle.frame_core.specs.declared.frame.Frame.{Frame}
use Rattle.frame_core.specs.Block.{covered}
use Rattle.frame_core.specs.FrameEncoding.{aligned_length}
use Rattle.segment_store.specs.declared.layout.Layout.{Layout}
use Rattle.segment_store.specs.Layout.{file_of}
use Rattle.segment_store.specs.Stored.{HoldsFrames}
use Rattle.archive_model.specs.Keyed.{Each}
use Rattle.archive_model.specs.State.{Recording, State}
use Rattle.archive_model.specs.Commands.{frames_of}
use Rattle.catalogue_log.specs.LogState.{LogState}
use Rattle.control_core.specs.declared.callers.RecorderSession.{RecorderSession}
use Rattle.control_core.specs.Consistent.{AreAtBoundaries, IsConsistent}
use Rattle.control_core.specs.Exact.{Archive, recording_at}
use Rattle.control_core.specs.Runs.{MayStand}
use Rattle.engine_core.specs.Engine.{EngineState}
use Rattle.engine_core.specs.Recovery.{IsDurable, IsSound, RecoversTo, last_of}
use Rattle.recording_reads.specs.Recording.{layout_of}

-- ---- which states a crash may leave

-- the state of the archive before a call or after it, or the one in doubt
abbrev pub MayStandIn : Archive → Archive → State → Type 0
MayStandIn a b x = MayStand a x ⊎ MayStand b x

-- ---- what recorder sessions wrote and did not settle

-- each of these frames, one after another from a position on, lies in a file that has P
abbrev pub Lie : (FileId → Type 0) → Layout → ℕ → List Frame → Type 0
Lie P l from [] = Unit {0}
Lie P l from (f ∷ fs) = P (file_of l from) × Lie P l (from + aligned_length f) fs

-- they lie in one file
abbrev pub LieIn : FileId → Layout → ℕ → List Frame → Type 0
LieIn this l from frames = Lie (λ file. file ≡ this) l from frames

-- These frames are read behind what is recorded, and lie in one file.
pub record Stands (image : DiskImage) (this : FileId) (r : Recording) (frames : List Frame) : Type 0 where
  pub holds : HoldsFrames image (layout_of r.descriptor) (last_of r) frames (last_of r + covered frames)
  pub lie : LieIn this (layout_of r.descriptor) (last_of r) frames

-- the frames of a session's blocks stand behind what is recorded, in the segment file where that ends
abbrev pub StandsBehind : DiskImage → Archive → RecorderSession → Type 0
StandsBehind image a s =
    (r : Recording) → recording_at a s.recording ≡ Some r → Stands image (file_of (layout_of r.descriptor) (last_of r)) r (frames_of (a.blocks s.number))

-- ---- an archive

-- The archive is crash-consistent on a disk, with the log of its catalogue.
pub record IsCrashConsistent (life : Life) (log : LogState) (a : Archive) : Type 0 where
  pub archive : IsConsistent a
  -- a crash now leaves the archive's state, or the one in doubt
  pub images : (image : DiskImage) → MayLeave life.now image → RecoversTo (MayStand a) image
  -- while none is in doubt the log is ready for the next entry
  pub sound : a.doubt ≡ None → IsSound life.now log a.state
  -- reading goes on over the archive's state also where another is in doubt
  pub frames : Each (IsDurable life.now) a.state.recordings
  -- what each session wrote is read behind what is recorded
  pub stand : Each (StandsBehind (reads life.now) a) a.desk.callers.sessions
  -- of what was read: where the disk obeys the crash model
  pub boundaries : IsTrue life.obeys → AreAtBoundaries a

-- the engine keeps this archive, which is crash-consistent
pub record KeepsArchive (e : EngineState) (a : Archive) : Type 0 where
  pub desk : e.desk ≡ a.desk
  pub consistent : IsCrashConsistent e.life e.log a
