-- Files, what they read as, and what a crash may leave of them: docs/STORAGE.md, "Crash model".
use Rattle.std.specs.Prelude.{◌≡◌, ◌⊎◌, ℕ, ◌+◌, ◌<◌, ◌≤◌, Bool, false, List, [], ◌∷◌, length, get_or, Option, Some, None, is_none, IfSome, IfNone, IsTrue, IsFalse}
use Rattle.disk_core.specs.declared.file_id.FileId.{FileId}

-- the bytes of each file that is there
abbrev pub DiskImage : Type 0
DiskImage = FileId → Option (List ℕ)

-- an absent file has no bytes
abbrev pub bytes_of : Option (List ℕ) → List ℕ
bytes_of None = []
bytes_of (Some bytes) = bytes

-- a file, with what has happened to it since its last successful sync, or since the disk began
pub record FileState : Type 0 where
  pub reads : Option (List ℕ)
  -- what it read as then
  pub last_synced : Option (List ℕ)
  -- a write, a cut or a remove has touched it since, a failed one too
  pub is_touched : Bool
  -- the ranges written since, by failed writes too: the first offset and the number of bytes
  pub written : List (ℕ × ℕ)
  -- the least length that it has had since, 0 while it is absent
  pub least : ℕ
  -- it has been absent at some moment since
  pub was_absent : Bool

-- the offset lies in one of the ranges
abbrev pub IsWithin : List (ℕ × ℕ) → ℕ → Type 0
IsWithin [] offset = ⊥
IsWithin (range ∷ ranges) offset =
    ((range.0 ≤ offset) × (offset < range.0 + range.1)) ⊎ IsWithin ranges offset

-- An offset is unsynced if it was written since the last sync, or lies at or past the least length since
-- then. What was cut off lies past that length.
abbrev pub IsUnsynced : FileState → ℕ → Type 0
IsUnsynced file offset = IsWithin file.written offset ⊎ (file.least ≤ offset)

-- these bytes may be left of a file: at least its least length, and the same at each offset that is durable
pub record AgreesWhereDurable (file : FileState) (left : List ℕ) : Type 0 where
  pub no_shorter : file.least ≤ length left
  pub same : (offset : ℕ) → ¬ IsUnsynced file offset →
      get_or left offset 0 ≡ get_or (bytes_of file.reads) offset 0

-- what a crash may leave of a file
pub record LeavesFile (file : FileState) (left : Option (List ℕ)) : Type 0 where
  -- a file that nothing has touched is left as it reads
  pub untouched : IsFalse file.is_touched → left ≡ file.reads
  -- it may be absent only if it was absent since its last sync, and has no durable byte
  pub absent : IfNone left (IsTrue file.was_absent × (file.least ≤ 0))
  pub present : IfSome left (AgreesWhereDurable file)

-- the state of each file
abbrev pub Files : Type 0
Files = FileId → FileState

-- what a disk reads as
abbrev pub reads : Files → DiskImage
reads files file = (files file).reads

-- a crash in this state may leave this image; files are independent
abbrev pub MayLeave : Files → DiskImage → Type 0
MayLeave files image = (file : FileId) → LeavesFile (files file) (image file)

-- a file that is on the disk as it reads, with nothing unsynced
abbrev pub durable : Option (List ℕ) → FileState
durable bytes = record {
  reads = bytes;
  last_synced = bytes;
  is_touched = false;
  written = [];
  least = length (bytes_of bytes);
  was_absent = is_none bytes;
}

-- a disk begun from an image
abbrev pub begun : DiskImage → Files
begun image file = durable (image file)
