-- What was noted of a folder.
use Rattle.std.specs.Prelude.{List}
use Rattle.host_disk.specs.Events.{Event}
use Rattle.host_disk.specs.declared.system.notes.Notes.{Notes}

-- the notes so far, the newest first
abbrev pub noted : Notes → List Event
noted notes = notes.record.events
