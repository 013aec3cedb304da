-- What another opening of a folder, which is only read, is given while a disk has the folder open: docs/STORAGE.md, "Folders".
use Rattle.std.specs.Prelude.{◌≡◌, ℕ, List, [], ◌∷◌, length, IsTrue}
use Rattle.disk_core.specs.declared.file_id.FileId.{FileId}
use Rattle.disk_core.specs.DiskImage.{DiskImage, bytes_of}
use Rattle.disk_core.specs.Life.{Life, MayHaveLeft, moment}
use Rattle.host_disk.specs.Events.{Event, gave, measured}
use Rattle.host_disk.specs.Replay.{agrees, replay}

-- The answer of a read from an offset is of a file that a crash at some moment of a disk, from one life to a later one, may
-- have left: some bytes from there on, none only at the file's end.
pub record IsReadOfLeft (old new : Life) (file : FileId) (at count : ℕ) (before after : List ℕ) : Type 0 where
  pub image : DiskImage
  pub left : MayHaveLeft new (moment old) image
  pub answers : IsTrue (agrees (bytes_of (image file)) at count before after)

-- the length of such a file
pub record IsLengthOfLeft (old new : Life) (file : FileId) (count : ℕ) : Type 0 where
  pub image : DiskImage
  pub left : MayHaveLeft new (moment old) image
  pub is : count ≡ length (bytes_of (image file))

-- What is assumed of the calls of another opening that is only read, the newest first, while the disk lives from one life to
-- a later one: what a read gives is of a file that a crash at that moment may have left, and a length is that of such a file.
abbrev pub SeesLeft : Life → Life → List Event → Type 0
SeesLeft old new [] = Unit {0}
SeesLeft old new (gave file at count after ∷ earlier) = IsReadOfLeft old new file at count (replay earlier).asked after × SeesLeft old new earlier
SeesLeft old new (measured file count ∷ earlier) = IsLengthOfLeft old new file count × SeesLeft old new earlier
SeesLeft old new (_ ∷ earlier) = SeesLeft old new earlier
