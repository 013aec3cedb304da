-- What each call of an archive is answered exactly, by its state with the frames, its desk and what its sessions wrote.
-- docs/CONTROL.md, "Requests", "Recorder sessions" and "Replays".
use Rattle.std.specs.Prelude.{◌≡◌, ◌⊎◌, ◌++◌, ◌+ℤ◌, ℕ, ℤ, pos, int_le, Bool, true, false, IsTrue, IsSomeAnd, MatchBool, List, [], ◌∷◌, length, unsigned_abs, Option, Some, None, is_none, is_some, Result, Ok, Err, if◌then◌else◌, ◌&&◌}
use Rattle.std.specs.Ordering.{int_eq}
use Rattle.frame_core.specs.declared.block.Block.{Block}
use Rattle.frame_core.specs.declared.refusal.Refusal.{Refusal}
use Rattle.frame_core.specs.declared.refusal.Refusal.TheVariants.{BadPosition, HistoryFull, NotCatalogue}
use Rattle.frame_core.specs.Block.{IsBlock, end_position}
use Rattle.frame_core.specs.FrameEncoding.{aligned_length}
use Rattle.archive_model.specs.declared.command.Command.{Command}
use Rattle.archive_model.specs.declared.command.Command.TheVariants as commands
use Rattle.archive_model.specs.declared.reply.PolledFrame.{PolledFrame}
use Rattle.archive_model.specs.declared.reply.Reply.{Reply}
use Rattle.archive_model.specs.declared.reply.Reply.TheVariants as replies
use Rattle.archive_model.specs.declared.version.BankVersion.{BankVersion}
use Rattle.archive_model.specs.Keyed.{find}
use Rattle.archive_model.specs.State.{Recording, State, geometry_of, id_of, publication_of, register_of, registration_of}
use Rattle.archive_model.specs.Acceptance.{BookState}
use Rattle.archive_model.specs.Accepting.{begins_in}
use Rattle.archive_model.specs.Checks.{checked, checks, passes}
use Rattle.archive_model.specs.Commands.{after}
use Rattle.archive_model.specs.Replay.{polled}
use Rattle.control_core.specs.declared.asked.Asked.{Asked}
use Rattle.control_core.specs.declared.asked.Asked.TheVariants as calls
use Rattle.control_core.specs.declared.asked.Told.TheVariants as told
use Rattle.control_core.specs.declared.callers.OpenReplay.{OpenReplay}
use Rattle.control_core.specs.declared.callers.RecorderSession.{RecorderSession}
use Rattle.control_core.specs.declared.callers.Written.{Written}
use Rattle.control_core.specs.Decided.{Decision}
use Rattle.control_core.specs.Decided.{Refused, Answered, Accepted, IfBoundary}
use Rattle.control_core.specs.declared.event.Event.{Event}
use Rattle.control_core.specs.declared.event.Event.TheVariants as events
use Rattle.control_core.specs.declared.turns.Opening.{Opening}
use Rattle.control_core.specs.Opened.{OpeningDecision}
use Rattle.control_core.specs.Opened as opening
use Rattle.control_core.specs.declared.turns.Settling.{Settling}
use Rattle.control_core.specs.declared.turns.Settling.TheVariants as settling
use Rattle.control_core.specs.Callers.{last_number}
use Rattle.control_core.specs.Desk.{DeskState, opened_desk}
use Rattle.control_core.specs.Changes.{after_close, after_open, after_poll, after_write, broken_desk, checkpointed, desk_after, positions_each, reply_after, settled}
use Rattle.control_core.specs.Decisions.{accepted, command_in, decision_of}
use Rattle.control_core.specs.Turns.{close_decision, held_to, is_done_at, open_decision, poll_decision, poll_tests, open_replay_in, session_in, settle_all_tests, settle_decision, settling_of, sweep_tests, verify_tests, write_decision, wrote_any}
use Rattle.control_core.specs.Machine.{OrOutside, Outcome}

-- The recordings with their frames, the desk, the blocks that each recorder session wrote and did not settle, and the
-- state that is in doubt since a write failed.
pub record Archive : Type 0 where
  pub state : State
  pub desk : DeskState
  pub blocks : ℤ → List Block
  pub doubt : Option State

-- an archive that is opened with these recordings: nobody has written, and nothing is in doubt
abbrev pub opened_archive : State → ℕ → ℕ → BankVersion → Archive
opened_archive s counted limit version = record { state = s; desk = opened_desk (register_of s) counted limit version; blocks = λ session. []; doubt = None }

-- the plain book of the archive
abbrev pub book_of : Archive → BookState
book_of a = record { state = a.state; counted = a.desk.counted; limit = a.desk.limit }

-- what a call may end with: its answer, and the archive then
abbrev pub ArchiveEnd : Type 1
ArchiveEnd = Result Reply Refusal → Archive → Type 0

-- this answer, and this archive
abbrev pub Is : Result Reply Refusal → Archive → ArchiveEnd
Is answer after outcome new = (outcome ≡ answer) × (new ≡ after)

-- a reply, and this archive; or a refusal, and nothing has changed
abbrev pub Leaves : Archive → Archive → Result Reply Refusal → ArchiveEnd
Leaves a after (Ok reply) = Is (Ok reply) after
Leaves a after (Err refusal) = Is (Err refusal) a

abbrev pub with_desk : DeskState → Archive → Archive
with_desk d a = record a { desk = d }

abbrev pub recording_at : Archive → ℤ → Option Recording
recording_at a id = find id_of id a.state.recordings

-- ---- requests

-- what is decided once the frames are asked
abbrev pub asked_frames : Archive → Decision → Decision
asked_frames a (IfBoundary id position decided) = if begins_in (recording_at a id) position then accepted decided else Refused BadPosition
asked_frames a (Refused refusal) = Refused refusal
asked_frames a (Answered reply) = Answered reply
asked_frames a (Accepted command) = Accepted command

-- the blocks of the sessions that are open, by their numbers
abbrev pub blocks_of_open : DeskState → (ℤ → List Block) → ℤ → List Block
blocks_of_open d blocks session = if is_some (session_in d session) then blocks session else []

-- the archive after an accepted command: what an ended session wrote is lost
abbrev pub archive_after : Archive → Command → Archive
archive_after a command = record a { state = after a.state command; desk = desk_after a.desk command; blocks = blocks_of_open (desk_after a.desk command) a.blocks }

abbrev pub DecisionEnds : Archive → Decision → ArchiveEnd
DecisionEnds a (Refused refusal) = Is (Err refusal) a
DecisionEnds a (Answered reply) = Is (Ok reply) a
DecisionEnds a (Accepted command) = Is (Ok (reply_after a.desk command)) (archive_after a command)
DecisionEnds a (IfBoundary id position decided) = λ outcome new. ⊥

-- ---- writing and settling

-- the blocks of a session are these
abbrev pub with_session_blocks : ℤ → List Block → (ℤ → List Block) → ℤ → List Block
with_session_blocks session blocks all n = if int_eq n session then blocks else all n

-- where what begins and ends at these positions lies; where its end is past the last position that there is, the first one
-- stands for it
abbrev pub span : ℤ → ℤ → Written
span first last = record { first = first; last = if int_le last last_number then last else first }

-- where a block lies
abbrev pub span_of : Block → Written
span_of block = span block.position (end_position block)

abbrev pub written : Archive → ℤ → Block → Archive
written a session block = record a { desk = after_write session (span_of block) a.desk; blocks = with_session_blocks session (a.blocks session ++ block ∷ []) a.blocks }

-- a block of the terms, session and stream of the recording that a session writes
abbrev pub IsBlockOf : Archive → Option RecorderSession → Block → Type 0
IsBlockOf a None block = ⊥
IsBlockOf a (Some s) block = IsSomeAnd (recording_at a s.recording) (λ r. IsBlock (geometry_of r.descriptor) (publication_of r.descriptor) block)

abbrev pub WriteEnds : Archive → ℤ → Block → ArchiveEnd
WriteEnds a session block outcome new =
    (fits : Bool) × MatchBool fits (IsBlockOf a (session_in a.desk session) block) (IsBlockOf a (session_in a.desk session) block → ⊥)
    × Leaves a (written a session block) (write_decision a.desk session (span_of block) fits) outcome new

-- what a session wrote is recorded by one append
abbrev pub settled_archive : Archive → ℤ → ℤ → Archive
settled_archive a session id = record a {
  state = after a.state (commands.Append id (a.blocks session));
  desk = settled (session_in a.desk session) a.desk;
  blocks = with_session_blocks session [] a.blocks;
}

abbrev pub SettlingEnds : Archive → ℤ → Result Settling Refusal → ArchiveEnd
SettlingEnds a session (Err refusal) = Is (Err refusal) a
SettlingEnds a session (Ok (settling.Nothing position)) = Is (Ok (replies.Settled position)) a
SettlingEnds a session (Ok (settling.Blocks id w)) = Is (Ok (replies.Settled w.last)) (settled_archive a session id)

-- what there is to settle of a session is recorded, if there is something
abbrev pub settled_by_number : Archive → ℤ → Settling → Archive
settled_by_number a session (settling.Nothing position) = a
settled_by_number a session (settling.Blocks id w) = settled_archive a session id

-- what there is to settle of the session of a number
abbrev pub settling_in : Archive → ℤ → Settling
settling_in a session = settling_of a.desk (session_in a.desk session)

-- what each of these sessions wrote is recorded, one after another
abbrev pub settled_archives : List ℤ → Archive → Archive
settled_archives [] a = a
settled_archives (n ∷ ns) a = settled_archives ns (settled_by_number a n (settling_in a n))

abbrev pub SettlingAllEnds : Archive → List ℤ → ArchiveEnd
SettlingAllEnds a ns = Leaves a (settled_archives ns a) (checked (settle_all_tests a.desk ns) checks (Ok (replies.SettledAll (positions_each ns a.desk))))

-- ---- replays

abbrev pub asked_opening : Archive → ℤ → OpeningDecision → Result Opening Refusal
asked_opening a id (opening.Decided decided) = decided
asked_opening a id (opening.IfBoundary position decided) = if begins_in (recording_at a id) position then decided else Err BadPosition

abbrev pub OpeningEnds : Archive → Result Opening Refusal → ArchiveEnd
OpeningEnds a (Err refusal) = Is (Err refusal) a
OpeningEnds a (Ok o) = Is (Ok (replies.ReplayOpened a.desk.callers.next_replay)) (with_desk (after_open o.recording o.next o.bound a.desk) a)

-- where frames end that begin at a position
abbrev pub frames_end : ℤ → List PolledFrame → ℤ
frames_end position [] = position
frames_end position (f ∷ fs) = frames_end (f.position +ℤ pos (aligned_length f.frame)) fs

-- where a replay goes on, or that it is done
abbrev pub goes_on : Recording → OpenReplay → ℤ → Option ℤ
goes_on r replay next = if is_done_at (registration_of r) replay.bound next then None else Some next

-- the frames of a poll begin before its limit, if it has one; the replay's own bound decides if it is done
abbrev pub PolledEnds : Archive → OpenReplay → ℤ → Option ℤ → Option Recording → ArchiveEnd
PolledEnds a replay most limit None = λ outcome new. ⊥
PolledEnds a replay most limit (Some r) =
    let frames = polled replay.next (held_to limit replay.bound) (unsigned_abs most) r in
    let next = frames_end replay.next frames in
    Is (Ok (replies.Polled frames (goes_on r replay next))) (with_desk (after_poll replay.number next a.desk) a)

abbrev pub PollingEnds : Archive → ℤ → Option ℤ → Result OpenReplay Refusal → ArchiveEnd
PollingEnds a most limit (Err refusal) = Is (Err refusal) a
PollingEnds a most limit (Ok replay) = PolledEnds a replay most limit (recording_at a replay.recording)

-- a poll with this limit, or without one
abbrev pub poll_event : ℤ → ℤ → Option ℤ → Event
poll_event number most None = events.ReplayPoll number most
poll_event number most (Some limit) = events.ReplayPollTo number most limit

-- ---- checkpoints, sweeping and verifying

-- the catalogue was written anew, or its banks refuse that: the other one may not be written, or the epoch is the last one
abbrev pub CheckpointEnds : Archive → Result (Unit {0}) Refusal → ArchiveEnd
CheckpointEnds a (Err refusal) = Is (Err refusal) a
CheckpointEnds a (Ok done) = λ outcome new.
    Is (Ok replies.Checkpointed) (with_desk (checkpointed a.desk) a) outcome new ⊎ (Is (Err NotCatalogue) a outcome new ⊎ Is (Err HistoryFull) a outcome new)

abbrev pub SweepEnds : Archive → Result (Unit {0}) Refusal → ArchiveEnd
SweepEnds a (Err refusal) = Is (Err refusal) a
SweepEnds a (Ok done) = λ outcome new. (removed : Bool) × Is (Ok (replies.Swept removed)) a outcome new

abbrev pub frames_of_one : Option Recording → ℤ
frames_of_one None = pos 0
frames_of_one (Some r) = pos (length r.frames)

-- ---- calls

abbrev pub ArchiveEnds : Archive → Event → ArchiveEnd
ArchiveEnds a (events.Ask request) = DecisionEnds a (asked_frames a (decision_of a.desk request))
ArchiveEnds a (events.Write session block) = WriteEnds a session block
ArchiveEnds a (events.Settle session) = SettlingEnds a session (settle_decision a.desk session)
ArchiveEnds a (events.SettleAll sessions) = SettlingAllEnds a sessions
ArchiveEnds a (events.ReplayOpen id position size) = OpeningEnds a (asked_opening a id (open_decision a.desk id position size))
ArchiveEnds a (events.ReplayPoll number most) = PollingEnds a most None (poll_decision a.desk number most None)
ArchiveEnds a (events.ReplayPollTo number most limit) = PollingEnds a most (Some limit) (poll_decision a.desk number most (Some limit))
ArchiveEnds a (events.ReplayClose number) = Leaves a (with_desk (after_close number a.desk) a) (close_decision a.desk number)
ArchiveEnds a events.Sweep = SweepEnds a (checked (sweep_tests a.desk) checks (Ok tt))
ArchiveEnds a (events.Verify id) = Leaves a a (checked (verify_tests a.desk id) checks (Ok (replies.Verified (frames_of_one (recording_at a id)))))
ArchiveEnds a events.Checkpoint = CheckpointEnds a (checked (sweep_tests a.desk) checks (Ok tt))

-- a write has failed, and this state is in doubt
abbrev pub broken : State → Archive → Archive
broken u a = record a { desk = broken_desk a.desk; doubt = Some u }

abbrev pub waits_for_frames : Decision → Bool
waits_for_frames (IfBoundary id position decided) = true
waits_for_frames _ = false

abbrev pub opens_by_frames : OpeningDecision → Bool
opens_by_frames (opening.IfBoundary position decided) = true
opens_by_frames (opening.Decided decided) = false

abbrev pub has_blocks : Result Settling Refusal → Bool
has_blocks (Ok (settling.Blocks id w)) = true
has_blocks _ = false

-- a call that is let through reads files, or removes those that no recording needs
abbrev pub reads_files : DeskState → Event → Bool
reads_files d (events.Ask request) = waits_for_frames (decision_of d request)
reads_files d (events.ReplayOpen id position size) = opens_by_frames (open_decision d id position size)
reads_files d (events.ReplayPoll number most) = passes (poll_tests d number most None) checks
reads_files d (events.ReplayPollTo number most limit) = passes (poll_tests d number most (Some limit)) checks
reads_files d events.Sweep = passes (sweep_tests d) checks
reads_files d (events.Verify id) = passes (verify_tests d id) checks
reads_files d _ = false

-- a call that is accepted writes what it makes
abbrev pub writes_files : DeskState → Event → Bool
writes_files d (events.Ask request) = is_some (command_in (decision_of d request))
writes_files d (events.Write session block) = true
writes_files d (events.Settle session) = has_blocks (settle_decision d session)
writes_files d (events.SettleAll sessions) = passes (settle_all_tests d sessions) checks && wrote_any d sessions
writes_files d events.Checkpoint = passes (sweep_tests d) checks
writes_files d _ = false

-- a poll gives recorded frames
abbrev pub is_poll : Event → Bool
is_poll (events.ReplayPoll number most) = true
is_poll (events.ReplayPollTo number most limit) = true
is_poll _ = false

-- the state that the call makes where it is accepted
abbrev pub MakesState : Archive → Event → State → Type 0
MakesState a event u = (reply : Reply) × ((b : Archive) × ArchiveEnds a event (Ok reply) b × (b.state ≡ u))

-- After a device fault in reading nothing has changed; after one in writing what the call makes is in doubt. A call that
-- asks nothing of the device meets none; a truncation may do both, and may end either way.
abbrev pub LeftByFault : Archive → Event → Archive → Type 0
LeftByFault a event b =
    (IsTrue (reads_files a.desk event) × (b ≡ a))
    ⊎ (IsTrue (writes_files a.desk event) × ((u : State) × MakesState a event u × (b ≡ broken u a)))

-- What a call ends with: its answer, want of memory, which changes nothing, or a device fault where the device had one.
abbrev pub CallEnds : Archive → Event → Type 0 → ArchiveEnd
CallEnds a event faulted = OrOutside a faulted (LeftByFault a event) (ArchiveEnds a event)

-- ---- the same without frames

abbrev pub asked_of : Event → Asked
asked_of (events.Ask request) = calls.Ask request
asked_of (events.Write session block) = calls.Write session (span_of block)
asked_of (events.Settle session) = calls.Settle session
asked_of (events.SettleAll sessions) = calls.SettleAll sessions
asked_of (events.ReplayOpen id position size) = calls.ReplayOpen id position size
asked_of (events.ReplayPoll number most) = calls.ReplayPoll number most None
asked_of (events.ReplayPollTo number most limit) = calls.ReplayPoll number most (Some limit)
asked_of (events.ReplayClose number) = calls.ReplayClose number
asked_of events.Sweep = calls.Sweep
asked_of (events.Verify id) = calls.Verify id
asked_of events.Checkpoint = calls.Checkpoint

abbrev pub plain : Result Reply Refusal → Outcome
plain (Ok reply) = Ok (told.Reply reply)
plain (Err refusal) = Err refusal

abbrev pub from_position : Option OpenReplay → ℤ
from_position None = pos 0
from_position (Some replay) = replay.next

-- a poll's frames by where they begin and end, and whether the replay is done
abbrev pub plain_poll : ℤ → Result Reply Refusal → Outcome
plain_poll first (Ok (replies.Polled frames next)) = Ok (told.Polled (record { first = first; last = frames_end first frames }) (is_none next))
plain_poll first (Ok reply) = Ok (told.Reply reply)
plain_poll first (Err refusal) = Err refusal

abbrev pub told_of : DeskState → Event → Result Reply Refusal → Outcome
told_of d (events.ReplayPoll number most) = plain_poll (from_position (open_replay_in d number))
told_of d (events.ReplayPollTo number most limit) = plain_poll (from_position (open_replay_in d number))
told_of d _ = plain
