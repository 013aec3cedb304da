-- Which of the images that a crash may leave a choice gives: docs/STORAGE.md, "Crashes in memory".
use Rattle.std.specs.Prelude.{◌≡◌, ℕ, ◌%◌, ◌<◌, ◌≤◌, List, length, get_or, Option, Some, None, IsTrue, IsFalse}
use Rattle.disk_core.specs.declared.file_id.FileId.{FileId}
use Rattle.disk_core.specs.declared.file_id.FileId.TheVariants.{BankA}
use Rattle.disk_core.specs.FileNames.{AreFilesWith}
use Rattle.disk_core.specs.DiskImage.{DiskImage, FileState, Files, IsUnsynced, durable, reads}

-- the byte of a choice for the n-th touched file, read round and round; 0 where there is none
abbrev pub pick : List ℕ → ℕ → ℕ
pick choice n = get_or choice (n % length choice) 0

-- what is left has this byte at each unsynced offset of these bytes, and is else the same
pub record IsFilled (byte : ℕ) (file : FileState) (bytes left : List ℕ) : Type 0 where
  pub long : length left ≡ length bytes
  pub unsynced : (offset : ℕ) → offset < length bytes → IsUnsynced file offset →
      get_or left offset 0 ≡ byte
  pub durable : (offset : ℕ) → ¬ IsUnsynced file offset → get_or left offset 0 ≡ get_or bytes offset 0

-- the same of a file that may be absent
abbrev pub IsFilledFile : ℕ → FileState → Option (List ℕ) → Option (List ℕ) → Type 0
IsFilledFile byte file None left = left ≡ None
IsFilledFile byte file (Some bytes) left =
    (filled : List ℕ) × (left ≡ Some filled) × IsFilled byte file bytes filled

-- the first of the two that is there
abbrev pub or_else : Option (List ℕ) → Option (List ℕ) → Option (List ℕ)
or_else None other = other
or_else (Some bytes) other = Some bytes

-- as it reads, and a file that is not there as it was last synced
abbrev pub reads_or_synced : FileState → Option (List ℕ)
reads_or_synced file = or_else file.reads file.last_synced

-- what a byte leaves of a touched file: as last synced, as it reads, or this byte at each unsynced offset
pub record IsLeftBy (byte : ℕ) (file : FileState) (left : Option (List ℕ)) : Type 0 where
  pub as_synced : byte ≡ 0 → left ≡ file.last_synced
  pub as_read : byte ≡ 1 → left ≡ file.reads
  pub as_filled : 2 ≤ byte → IsFilledFile byte file (reads_or_synced file) left

-- a touched file is left as this byte says, another as it reads
pub record IsLeft (byte : ℕ) (file : FileState) (left : Option (List ℕ)) : Type 0 where
  pub touched : IsTrue file.is_touched → IsLeftBy byte file left
  pub untouched : IsFalse file.is_touched → left ≡ file.reads

-- the image that a choice gives: a byte for each touched file in the order of files, the others as they read
pub record IsChosen (files : Files) (choice : List ℕ) (image : DiskImage) : Type 0 where
  pub touched : List FileId
  pub are_touched : AreFilesWith (λ file. IsTrue (files file).is_touched) touched
  pub each : (n : ℕ) → n < length touched →
      IsLeftBy (pick choice n) (files (get_or touched n BankA)) (image (get_or touched n BankA))
  pub others : (file : FileId) → IsFalse (files file).is_touched → image file ≡ (files file).reads

-- the files after a crash by a choice: the image that the choice gives, all of it durable
pub record IsCrash (files : Files) (choice : List ℕ) (left : Files) : Type 0 where
  pub chosen : IsChosen files choice (reads left)
  pub begun : (file : FileId) → left file ≡ durable (reads left file)
