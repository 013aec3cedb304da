-- What was asked of a folder that is only read.
use Rattle.std.specs.Prelude.{List}
use Rattle.host_disk.specs.declared.looked.Looked.{Looked}
use Rattle.host_disk.specs.Events.{Event}
use Rattle.host_disk.specs.NotesOf.{noted}

-- each call so far with its answer, the newest first
abbrev pub events_of : Looked → List Event
events_of folder = noted folder.notes
