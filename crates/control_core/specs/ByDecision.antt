-- What a call that reads may be answered, by what is decided on it: docs/CONTROL.md, "Replays" and "Refusals".
use Rattle.std.specs.Prelude.{◌⊎◌, ℤ, Bool, Option, Some, Result, Ok, Err}
use Rattle.frame_core.specs.declared.refusal.Refusal.{Refusal}
use Rattle.archive_model.specs.declared.reply.Reply.TheVariants as replies
use Rattle.archive_model.specs.Register.{registration_in}
use Rattle.control_core.specs.declared.asked.Told.TheVariants as told
use Rattle.control_core.specs.declared.callers.OpenReplay.{OpenReplay}
use Rattle.control_core.specs.declared.turns.Opening.{Opening}
use Rattle.control_core.specs.Opened.{OpeningDecision}
use Rattle.control_core.specs.Opened as opening
use Rattle.control_core.specs.Changes.{after_open}
use Rattle.control_core.specs.Desk.{DeskState}
use Rattle.control_core.specs.Machine.{Either, Ended, Ends, Faults, GivesFrames, RefusesCall, UnlessBoundary, Unread}

-- a replay is opened, or refused
abbrev pub OpensAs : DeskState → Result Opening Refusal → Ends
OpensAs d (Ok o) = Ended (Ok (told.Reply (replies.ReplayOpened d.callers.next_replay))) (after_open o.recording o.next o.bound d)
OpensAs d (Err refusal) = RefusesCall d refusal

-- by the desk alone, or once the frames are asked
abbrev pub OpensBy : DeskState → OpeningDecision → Ends
OpensBy d (opening.Decided decided) = OpensAs d decided
OpensBy d (opening.IfBoundary position decided) = UnlessBoundary d (OpensAs d decided)

-- a poll gives frames, or cannot read them, or is refused
abbrev pub PollsBy : DeskState → Option ℤ → Result OpenReplay Refusal → Ends
PollsBy d limit (Ok replay) = Either (Unread d) (GivesFrames d limit (Some replay) (registration_in d.register replay.recording))
PollsBy d limit (Err refusal) = RefusesCall d refusal

-- a sweep tells whether there was a stale file, or the device failed, or it is refused
abbrev pub SweepsBy : DeskState → Result (Unit {0}) Refusal → Ends
SweepsBy d (Ok done) = λ outcome new. ((removed : Bool) × Ended (Ok (told.Reply (replies.Swept removed))) d outcome new) ⊎ Faults d outcome new
SweepsBy d (Err refusal) = RefusesCall d refusal

-- a verification counts frames, or cannot read them, or is refused
abbrev pub VerifiesBy : DeskState → Result (Unit {0}) Refusal → Ends
VerifiesBy d (Ok done) = λ outcome new. ((frames : ℤ) × Ended (Ok (told.Reply (replies.Verified frames))) d outcome new) ⊎ Unread d outcome new
VerifiesBy d (Err refusal) = RefusesCall d refusal
