-- Which recording open replays keep as it is: docs/SERVING.md, "Retention".
use Rattle.std.specs.Prelude.{ℤ, Option, None, Some, Result, Err}
use Rattle.frame_core.specs.declared.refusal.Refusal.{Refusal}
use Rattle.frame_core.specs.declared.refusal.Refusal.TheVariants.{ActiveReplay}
use Rattle.archive_model.specs.declared.reply.Reply.{Reply}
use Rattle.control_core.specs.declared.event.Event.{Event}
use Rattle.control_core.specs.declared.event.Event.TheVariants.{Ask}
use Rattle.control_core.specs.declared.request.Request.{Request}
use Rattle.control_core.specs.declared.request.Request.TheVariants.{PurgeRecording, PurgeSegments, Truncate}

-- the recording that a request takes frames from
abbrev pub removed_recording : Request → Option ℤ
removed_recording (Truncate recording p) = Some recording
removed_recording (PurgeSegments recording p) = Some recording
removed_recording (PurgeRecording recording) = Some recording
removed_recording request = None

-- that of a call that was answered so, if open replays are why it was refused
abbrev pub held_recording : Event → Result Reply Refusal → Option ℤ
held_recording (Ask request) (Err ActiveReplay) = removed_recording request
held_recording event outcome = None
