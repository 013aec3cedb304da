-- Frames that stand in segment files: docs/STORAGE.md, "Segments" and "What stands after a crash".
use Rattle.std.specs.Prelude.{◌≡◌, ◌≢◌, ◌+◌, ◌≤◌, ℕ, IsTrue, List, [], ◌∷◌, length, flat_map, Option}
use Rattle.disk_core.specs.declared.file_id.FileId.{FileId}
use Rattle.disk_core.specs.DiskImage.{DiskImage, FileState, Files, LeavesFile, bytes_of}
use Rattle.disk_core.specs.Life.{Life}
use Rattle.disk_core.specs.Standing.{Holds, unsynced_from}
use Rattle.frame_core.specs.declared.frame.Frame.{Frame}
use Rattle.frame_core.specs.FrameEncoding.{aligned_length, stored}
use Rattle.segment_store.specs.declared.layout.Layout.{Layout}
use Rattle.segment_store.specs.Layout.{file_of, offset_of}

-- the stored bytes of frames, one behind the other
abbrev pub stored_frames : List Frame → List ℕ
stored_frames frames = flat_map stored frames

-- the frame's stored bytes stand in the file of its position, where the position lies
abbrev pub HoldsFrame : DiskImage → Layout → ℕ → Frame → Type 0
HoldsFrame image l position frame = Holds (bytes_of (image (file_of l position))) (offset_of l position) (stored frame)

-- frames stand from one position to another, one after another
abbrev pub HoldsFrames : DiskImage → Layout → ℕ → List Frame → ℕ → Type 0
HoldsFrames image l from [] to = from ≡ to
HoldsFrames image l from (frame ∷ frames) to =
    HoldsFrame image l from frame × HoldsFrames image l (from + aligned_length frame) frames to

-- bytes that whatever a crash leaves of the file has, also where all behind them is unsynced
abbrev pub AreDurableBytes : FileState → ℕ → List ℕ → Type 0
AreDurableBytes file offset bytes =
    (left : Option (List ℕ)) → LeavesFile (unsynced_from (offset + length bytes) file) left → Holds (bytes_of left) offset bytes

-- the frame's stored bytes are durable at its position
abbrev pub IsDurableFrame : Files → Layout → ℕ → Frame → Type 0
IsDurableFrame files l position frame = AreDurableBytes (files (file_of l position)) (offset_of l position) (stored frame)

-- frames are durable from one position to another, one after another
abbrev pub AreDurableFrames : Files → Layout → ℕ → List Frame → ℕ → Type 0
AreDurableFrames files l from [] to = from ≡ to
AreDurableFrames files l from (frame ∷ frames) to =
    IsDurableFrame files l from frame × AreDurableFrames files l (from + aligned_length frame) frames to

-- none but this file changed; the disk obeyed before if it does now, and its count of faults did not fall
pub record ChangesFile (this : FileId) (old new : Life) : Type 0 where
  pub others : (file : FileId) → file ≢ this → new.now file ≡ old.now file
  pub obeyed : IsTrue new.obeys → IsTrue old.obeys
  pub faults : old.faults ≤ new.faults

-- below this offset the file is left as before, and so are the other files
pub record IsLeftBelow (files : Files) (this : FileId) (offset : ℕ) (image : DiskImage) : Type 0 where
  pub segment : LeavesFile (unsynced_from offset (files this)) (image this)
  pub others : (file : FileId) → file ≢ this → LeavesFile (files file) (image file)
