-- What a command leaves of the folder that it opened, and how it ends: docs/CONTROL.md, "The program".
use Rattle.std.specs.Prelude.{Option, None, Some, Result, Ok, Err}
use Rattle.disk_core.specs.Life.{Life}
use Rattle.host_disk.specs.declared.closed_disk.ClosedDisk.{ClosedDisk}
use Rattle.host_disk.specs.ClosedDisk.{closed_life}
use Rattle.folder_commands.specs.declared.outcome.Outcome.{Outcome}
use Rattle.folder_commands.specs.declared.status.Ending.{Ending}
use Rattle.folder_commands.specs.declared.status.Ending.TheVariants.{Done}

-- the life of the folder that it opened, up to its closing; none if it opened none
abbrev pub left_life : Option ClosedDisk → Option Life
left_life None = None
left_life (Some closed) = Some (closed_life closed)

-- the same of a command that answers so
abbrev pub leaves : Result (Option ClosedDisk) Outcome → Option Life
leaves (Ok left) = left_life left
leaves (Err outcome) = left_life outcome.left

-- the life of a folder that it looked at and left unopened for what it saw, up to its closing; none if there was no such look
abbrev pub sees : Result (Option ClosedDisk) Outcome → Option Life
sees (Ok left) = None
sees (Err outcome) = left_life outcome.looked

-- how it ends
abbrev pub ends_with : Result (Option ClosedDisk) Outcome → Ending
ends_with (Ok left) = Done
ends_with (Err outcome) = outcome.exit.ending
