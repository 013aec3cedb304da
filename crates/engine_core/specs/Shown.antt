-- What a call that reads tells of the files, whatever the archive is: docs/CONTROL.md, "Replays"; docs/STORAGE.md, "Damaged frames".
use Rattle.std.specs.Prelude.{ℕ, ℤ, true, false, IfSome, unsigned_abs, Option, Some, None, Result, Ok, Err}
use Rattle.disk_core.specs.DiskImage.{DiskImage}
use Rattle.frame_core.specs.declared.refusal.Refusal.{Refusal}
use Rattle.frame_core.specs.declared.refusal.Refusal.TheVariants.{BadPosition, Damaged, DeviceFault, NoMemory}
use Rattle.archive_model.specs.declared.registration.Registration.{Registration}
use Rattle.archive_model.specs.declared.reply.Reply.{Reply}
use Rattle.archive_model.specs.declared.reply.Reply.TheVariants as replies
use Rattle.archive_model.specs.Register.{registration_in}
use Rattle.archive_model.specs.State.{geometry_of}
use Rattle.recording_reads.specs.Reading.{GivesShown, HasFrames, RefusesBoundaryIn, RefusesCount, RefusesPoll, TellsBoundaryIn}
use Rattle.recording_reads.specs.Recording.{layout_of}
use Rattle.control_core.specs.declared.callers.OpenReplay.{OpenReplay}
use Rattle.control_core.specs.declared.event.Event.{Event}
use Rattle.control_core.specs.declared.event.Event.TheVariants as events
use Rattle.control_core.specs.Decided.{Decision}
use Rattle.control_core.specs.Decided as decided
use Rattle.control_core.specs.Decisions.{decision_of}
use Rattle.control_core.specs.Desk.{DeskState}
use Rattle.control_core.specs.Opened.{OpeningDecision}
use Rattle.control_core.specs.Opened as opening
use Rattle.control_core.specs.Turns.{held_back, open_decision, poll_decision}

-- ---- by answer

-- frames were counted: they are shown from the start to the recorded position; or they break off where it is told
abbrev pub CountsShown : DiskImage → Registration → Result Reply Refusal → Type 0
CountsShown image g (Ok (replies.Verified count)) = HasFrames image g count
CountsShown image g (Ok reply) = ⊥
CountsShown image g (Err (Damaged recording at)) = RefusesCount true image g (Damaged recording at)
CountsShown image g (Err refusal) = Unit {0}

-- frames were polled: they are shown from the replay's next position on; or they break off where it is told
abbrev pub PollsShown : DiskImage → Registration → OpenReplay → ℤ → Result Reply Refusal → Type 0
PollsShown image g replay most (Ok (replies.Polled frames next)) = (end : ℕ) × GivesShown image g replay most frames end
PollsShown image g replay most (Ok reply) = ⊥
PollsShown image g replay most (Err (Damaged recording at)) =
    RefusesPoll true image (layout_of g.descriptor) (geometry_of g.descriptor) g.recorded replay.bound (unsigned_abs most) (unsigned_abs replay.next) (Damaged recording at)
PollsShown image g replay most (Err refusal) = Unit {0}

-- Frames were asked whether one begins or ends at a position: BadPosition where none does, Damaged where they break off before
-- it; what else is answered comes behind that, of a position where one does.
abbrev pub AsksShown : DiskImage → Registration → ℤ → Result Reply Refusal → Type 0
AsksShown image g position (Ok reply) = TellsBoundaryIn image g position true
AsksShown image g position (Err BadPosition) = TellsBoundaryIn image g position false
AsksShown image g position (Err (Damaged recording at)) = RefusesBoundaryIn true image g position (Damaged recording at)
AsksShown image g position (Err DeviceFault) = Unit {0}
AsksShown image g position (Err NoMemory) = Unit {0}
AsksShown image g position (Err refusal) = TellsBoundaryIn image g position true

-- ---- by event

-- a request whose decision rests on frames: a truncation at a position strictly inside a recording
abbrev pub AsksDecided : DiskImage → DeskState → Decision → Result Reply Refusal → Type 0
AsksDecided image d (decided.IfBoundary id position made) outcome = IfSome (registration_in d.register id) (λ g. AsksShown image g position outcome)
AsksDecided image d (decided.Refused refusal) outcome = Unit {0}
AsksDecided image d (decided.Answered reply) outcome = Unit {0}
AsksDecided image d (decided.Accepted command) outcome = Unit {0}

-- a replay that is opened strictly inside a recording
abbrev pub OpensShown : DiskImage → DeskState → ℤ → OpeningDecision → Result Reply Refusal → Type 0
OpensShown image d id (opening.IfBoundary position made) outcome = IfSome (registration_in d.register id) (λ g. AsksShown image g position outcome)
OpensShown image d id (opening.Decided made) outcome = Unit {0}

-- a poll that is let through: a limit holds its replay back
abbrev pub PollsDecided : DiskImage → DeskState → Result OpenReplay Refusal → ℤ → Option ℤ → Result Reply Refusal → Type 0
PollsDecided image d (Ok replay) most limit outcome = IfSome (registration_in d.register replay.recording) (λ g. PollsShown image g (held_back limit replay) most outcome)
PollsDecided image d (Err refusal) most limit outcome = Unit {0}

-- what a call tells of frames is what the files show, of the recordings and replays that stood before it
abbrev pub Shows : DiskImage → DeskState → Event → Result Reply Refusal → Type 0
Shows image d (events.Ask request) outcome = AsksDecided image d (decision_of d request) outcome
Shows image d (events.ReplayOpen id position size) outcome = OpensShown image d id (open_decision d id position size) outcome
Shows image d (events.ReplayPoll number most) outcome = PollsDecided image d (poll_decision d number most None) most None outcome
Shows image d (events.ReplayPollTo number most limit) outcome = PollsDecided image d (poll_decision d number most (Some limit)) most (Some limit) outcome
Shows image d (events.Verify id) outcome = IfSome (registration_in d.register id) (λ g. CountsShown image g outcome)
Shows image d (events.Write session block) outcome = Unit {0}
Shows image d (events.Settle session) outcome = Unit {0}
Shows image d (events.SettleAll sessions) outcome = Unit {0}
Shows image d (events.ReplayClose number) outcome = Unit {0}
Shows image d events.Checkpoint outcome = Unit {0}
Shows image d events.Sweep outcome = Unit {0}
