-- What a real folder shows.
use Rattle.std.specs.Prelude.{◌≡◌, ℕ, List, ◌++◌, string_bytes, Some, slice_get}
use Rattle.disk_core.specs.declared.file_id.FileId.{FileId}
use Rattle.disk_core.specs.FileNames.{name_of}
use Rattle.host_disk.specs.declared.host_folder.HostFolder.{HostFolder}
use Rattle.host_disk.specs.declared.host_folder.Lookup.{Lookup}
use Rattle.host_disk.specs.declared.host_folder.Lookup.TheVariants.{At, Nowhere}
use Rattle.host_disk.specs.Events.{Event}
use Rattle.host_disk.specs.declared.open_files.OpenFiles.{OpenFiles}
use Rattle.host_disk.specs.Names.{path_of}
use Rattle.host_disk.specs.NotesOf.{noted}
use Rattle.host_disk.specs.OpenFiles.{held}
use Rattle.host_disk.specs.Unsynced.{calls_of}

-- what was noted so far, the newest first
abbrev pub notes_of : HostFolder → List Event
notes_of folder = noted folder.notes

-- each call so far with its answer, the newest first
abbrev pub events_of : HostFolder → List Event
events_of folder = calls_of (notes_of folder)

abbrev pub open_files_of : HostFolder → OpenFiles
open_files_of folder = folder.open_files

-- the file is held open at this index
abbrev pub IsHeldAt : HostFolder → FileId → ℕ → Type 0
IsHeldAt folder file index = slice_get (held folder.open_files) index ≡ Some file

-- the file was found there, or nowhere
abbrev pub IsLookupOf : HostFolder → FileId → Lookup → Type 0
IsLookupOf folder file (At index) = IsHeldAt folder file index
IsLookupOf folder file (Nowhere absent) = absent.file ≡ file

-- the path is the one of this file: the folder's, and the file's name
abbrev pub IsPathOf : HostFolder → FileId → Type 0
IsPathOf folder file = string_bytes folder.path ≡ path_of folder.names ++ name_of file
