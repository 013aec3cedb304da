-- What a command leaves of one recording. docs/CONTROL.md, "Requests".
use Rattle.std.specs.Prelude.{ℤ, Option, Some, None, if◌then◌else◌}
use Rattle.std.specs.Ordering.{int_eq}
use Rattle.archive_model.specs.declared.command.Command.{Command}
use Rattle.archive_model.specs.declared.command.Command.TheVariants.{Start, Append, Stop, Extend, Truncate, PurgeSegments, PurgeRecording, Restart}
use Rattle.archive_model.specs.State.{Recording}
use Rattle.archive_model.specs.Commands.{appended, extended, purged, restarted, stopped, truncated}

-- of the recording of an id, which is there: of the one that the command names what its equation says, of another all; none
-- where it is gone
abbrev pub left_of : ℤ → Command → Recording → Option Recording
left_of id (Start f) r = Some r
left_of id (Append other blocks) r = Some (if int_eq id other then appended blocks r else r)
left_of id (Stop other timestamp) r = Some (if int_eq id other then stopped timestamp r else r)
left_of id (Extend f) r = Some (if int_eq id f.recording then extended f.session_id r else r)
left_of id (Truncate other position) r = Some (if int_eq id other then truncated position r else r)
left_of id (PurgeSegments other position) r = Some (if int_eq id other then purged position r else r)
left_of id (PurgeRecording other) r = if int_eq id other then None else Some r
left_of id Restart r = Some (restarted r)
