-- The files that are held open.
use Rattle.std.specs.Prelude.{◌≡◌, ◌≢◌, ℕ, List, map, length, get_or, Bool, IsTrue, All}
use Rattle.std.specs.List.{Contains}
use Rattle.disk_core.specs.declared.file_id.FileId.{FileId}
use Rattle.disk_core.specs.declared.file_id.FileId.TheVariants.{BankA}
use Rattle.host_disk.specs.declared.system.OpenFile.{OpenFile}
use Rattle.host_disk.specs.declared.open_files.OpenFiles.{OpenFiles}
use Rattle.host_disk.specs.Events.{Event}
use Rattle.host_disk.specs.Unsynced.{HasUnsynced}

abbrev pub entries_of : OpenFiles → List OpenFile
entries_of files = files.entries.items

-- the file of each index
abbrev pub held : OpenFiles → List FileId
held files = map (λ (entry : OpenFile). entry.file) (entries_of files)

-- the file of an index
abbrev pub file_at : OpenFiles → ℕ → FileId
file_at files index = get_or (held files) index BankA

-- whether the file of each index was written or cut since it was last synced
abbrev pub unsynced : OpenFiles → List Bool
unsynced files = map (λ (entry : OpenFile). entry.is_unsynced) (entries_of files)

-- as many files are held as may be, and each was written or cut since it was last synced
abbrev pub IsFull : OpenFiles → Type 0
IsFull files = (length (entries_of files) ≡ 128) × All IsTrue (unsynced files)

-- the file is held, and marked as written or cut since it was last synced
abbrev pub IsMarked : OpenFiles → FileId → Type 0
IsMarked files file =
    (entry : OpenFile) × Contains (entries_of files) entry × (entry.file ≡ file) × IsTrue entry.is_unsynced

-- each file that was marked still is
abbrev pub KeepsMarks : OpenFiles → OpenFiles → Type 0
KeepsMarks old new = (file : FileId) → IsMarked old file → IsMarked new file

-- each other file that was marked still is
abbrev pub KeepsOtherMarks : FileId → OpenFiles → OpenFiles → Type 0
KeepsOtherMarks this old new = (file : FileId) → file ≢ this → IsMarked old file → IsMarked new file

-- a file that is not held, or not marked, was not written or cut since its last sync
abbrev pub HoldsUnsynced : OpenFiles → List Event → Type 0
HoldsUnsynced files notes = (file : FileId) → ¬ IsMarked files file → ¬ HasUnsynced notes file
