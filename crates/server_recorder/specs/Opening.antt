-- What is done for an image that waits to be recorded: docs/SERVING.md, "Recording without being asked".
use Rattle.std.specs.Prelude.{◌-◌, ℕ, ℤ, nat_le, Bool, false, true, if◌then◌else◌, not, Option, Some, Result, Ok}
use Rattle.std.specs.Ordering.{int_eq}
use Rattle.archive_model.specs.declared.reply.Reply.{Reply}
use Rattle.archive_model.specs.declared.reply.Reply.TheVariants.{Stopped}
use Rattle.frame_core.specs.declared.refusal.Refusal.{Refusal}
use Rattle.server_recorder.specs.declared.opening.Opening.{Opening}
use Rattle.server_recorder.specs.declared.opening.Opening.TheVariants.{AwaitsBlock, GoesOn, IsLate, ResumesAt, Starts}
use Rattle.server_recorder.specs.declared.opening.OwnRecording.{OwnRecording}
use Rattle.server_recorder.specs.declared.streams.Finding.{Finding}
use Rattle.server_recorder.specs.declared.streams.Finding.TheVariants.{Begins, Extends, StandsBefore}

-- A recording begins with the first block of its image, if it may begin.
abbrev pub beginning_for : Bool → Bool → Opening
beginning_for has_block may_begin = if not has_block then AwaitsBlock else if may_begin then Starts else IsLate

abbrev pub opening_for : Finding → Bool → Bool → Opening
opening_for (Extends recording) has_block may_begin = GoesOn recording
opening_for (StandsBefore stand) has_block may_begin = ResumesAt stand
opening_for Begins has_block may_begin = beginning_for has_block may_begin

-- so many milliseconds have passed since a time; so it is if either is not known
abbrev pub is_past : ℕ → Option ℕ → Option ℕ → Bool
is_past millis (Some last) (Some now) = nat_le millis (now - last)
is_past millis last now = true

-- the server began the recording where it was stopped: nothing was recorded by it
abbrev pub is_stopped_at : Option ℤ → Result Reply Refusal → Bool
is_stopped_at (Some begun) (Ok (Stopped position)) = int_eq begun position
is_stopped_at begun outcome = false

abbrev pub is_left_empty : OwnRecording → Result Reply Refusal → Bool
is_left_empty own outcome = is_stopped_at own.begun_at outcome
