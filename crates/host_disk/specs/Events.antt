-- The calls of a folder with their answers: docs/STORAGE.md, "Folders".
use Rattle.std.specs.Prelude.{ℕ, List, Option}
use Rattle.disk_core.specs.declared.file_id.FileId.{FileId}

-- a file of a folder, with its bytes
abbrev pub Held : Type 0
Held = FileId × List ℕ

-- what nobody can tell when a folder is opened
pub record Given : Type 0 where
  -- the files that it holds
  pub held : List Held
  -- what each write, cut and remove that fails will leave of its file, the first of them first
  pub left : List (Option (List ℕ))

-- a call of a folder with its answer
pub data Event : Type 0 where
  -- the folder was opened, and this was given
  opened : Given → Event
  -- the folder of this path was locked
  locked : List ℕ → Event
  -- a file had this length, 0 if it was absent
  measured : FileId → ℕ → Event
  -- a file's length was not told
  measure_failed : FileId → Event
  -- a read is to come, into a buffer that holds these bytes
  asked : List ℕ → Event
  -- a read from an offset gave so many bytes, and the buffer then held these
  gave : FileId → ℕ → ℕ → List ℕ → Event
  -- a read from an offset failed
  read_failed : FileId → ℕ → Event
  -- an open file is to be written or cut
  touched : FileId → Event
  -- these bytes were written at an offset
  wrote : FileId → ℕ → List ℕ → Event
  -- a write of so many bytes at an offset failed
  write_failed : FileId → ℕ → ℕ → Event
  -- a file was cut to a length
  cut : FileId → ℕ → Event
  -- a cut to a length failed
  cut_failed : FileId → ℕ → Event
  -- a file was removed
  gone : FileId → Event
  -- a remove failed
  remove_failed : FileId → Event
  -- a file and its name were synced
  flushed : FileId → Event
  -- a sync failed
  flush_failed : FileId → Event
  -- these files were there
  listed : List FileId → Event
  -- a listing failed
  list_failed : Event
  -- a call of a file, from this offset, was refused, and the system not asked
  refused : FileId → ℕ → Event
