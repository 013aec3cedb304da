-- The desk machine: what each call may be answered, and the desk then. docs/CONTROL.md, "Control state" and "Refusals".
use Rattle.std.specs.Prelude.{◌≡◌, ◌⊎◌, ◌≤ℤ◌, ◌<ℤ◌, ◌++◌, ℤ, Bool, true, MatchBool, List, [], ◌∷◌, Option, Some, None, Result, Ok, Err}
use Rattle.frame_core.specs.declared.refusal.Refusal.{Refusal}
use Rattle.frame_core.specs.declared.refusal.Refusal.TheVariants.{BadBlock, BadPosition, Damaged, DeviceFault, HistoryFull, NoMemory, NotCatalogue}
use Rattle.frame_core.specs.ReplayEnd.{bound_of}
use Rattle.archive_model.specs.declared.command.Command.{Command}
use Rattle.archive_model.specs.declared.registration.Registration.{Registration}
use Rattle.archive_model.specs.declared.reply.Reply.TheVariants as replies
use Rattle.archive_model.specs.Checks.{Tests, block_checks, checks, first_checks, last_checks}
use Rattle.archive_model.specs.Register.{is_end, registration_in}
use Rattle.control_core.specs.declared.asked.Asked.{Asked}
use Rattle.control_core.specs.declared.asked.Asked.TheVariants as calls
use Rattle.control_core.specs.declared.asked.Told.{Told}
use Rattle.control_core.specs.declared.asked.Told.TheVariants as told
use Rattle.control_core.specs.declared.callers.OpenReplay.{OpenReplay}
use Rattle.control_core.specs.declared.callers.Written.{Written}
use Rattle.control_core.specs.Decided.{Decision}
use Rattle.control_core.specs.Decided.{Refused, Answered, Accepted, IfBoundary}
use Rattle.control_core.specs.Desk.{DeskState}
use Rattle.control_core.specs.Changes.{after_close, after_open, after_poll, after_write, broken_desk, checkpointed, desk_after, positions_each, reply_after, settled, settled_each, settled_position}
use Rattle.control_core.specs.Decisions.{decision_of}
use Rattle.control_core.specs.Turns.{begins_at, close_tests, held_back, is_done_at, open_tests, poll_tests, open_replay_in, session_in, settle_all_tests, settle_tests, sweep_tests, verify_tests, write_tests}

abbrev pub Outcome : Type 0
Outcome = Result Told Refusal

-- what a call may end with: its answer, and the desk then
abbrev pub Ends : Type 1
Ends = Outcome → DeskState → Type 0

-- this answer, and this desk
abbrev pub Ended : Outcome → DeskState → Ends
Ended answer after outcome new = (outcome ≡ answer) × (new ≡ after)

-- this refusal, and the desk as it was
abbrev pub RefusesCall : DeskState → Refusal → Ends
RefusesCall old refusal = Ended (Err refusal) old

-- either of two ends
abbrev pub Either : Ends → Ends → Ends
Either this that outcome new = this outcome new ⊎ that outcome new

-- the refusal of the first check whose test does not hold; where each holds, these ends
abbrev pub Passing : DeskState → Tests → List Refusal → Ends → Ends
Passing old tests [] ends outcome new = ends outcome new
Passing old tests (r ∷ rs) ends outcome new = MatchBool (tests r) (Passing old tests rs ends outcome new) (RefusesCall old r outcome new)

-- a device fault that leaves the desk as it was
abbrev pub Faults : DeskState → Ends
Faults old = RefusesCall old DeviceFault

-- a device fault in a write, which may leave the archive broken
abbrev pub Breaks : DeskState → Ends
Breaks old = Either (Faults old) (Ended (Err DeviceFault) (broken_desk old))

-- frames that cannot be read
abbrev pub Unread : DeskState → Ends
Unread old outcome new = Faults old outcome new ⊎ ((recording position : ℤ) × RefusesCall old (Damaged recording position) outcome new)

-- what the frames say of a position: that none begins there, that they cannot be read, or that one begins there
abbrev pub UnlessBoundary : DeskState → Ends → Ends
UnlessBoundary old ends = Either (RefusesCall old BadPosition) (Either (Unread old) ends)

-- a command's entry is made, or a write fails
abbrev pub Commits : DeskState → Command → Ends
Commits old command = Either (Ended (Ok (told.Reply (reply_after old command))) (desk_after old command)) (Breaks old)

abbrev pub Does : DeskState → Result Command Refusal → Ends
Does old (Ok command) = Commits old command
Does old (Err refusal) = RefusesCall old refusal

-- ---- requests

abbrev pub Decided : DeskState → Decision → Ends
Decided old (Refused refusal) = RefusesCall old refusal
Decided old (Answered reply) = Ended (Ok (told.Reply reply)) old
Decided old (Accepted command) = Commits old command
Decided old (IfBoundary recording position decided) = UnlessBoundary old (Does old decided)

-- ---- the other calls

-- a block at the written position may be none of its recording's
abbrev pub Writes : DeskState → ℤ → Written → Ends
Writes old session block =
    let tests = write_tests old session block true in
    Passing old tests (first_checks ++ block_checks) (Either (RefusesCall old BadBlock)
    (Passing old tests last_checks (Either (Ended (Ok (told.Reply (replies.Written block.last))) (after_write session block old)) (Breaks old))))

abbrev pub Settles : DeskState → ℤ → Ends
Settles old session =
    let found = session_in old session in
    Passing old (settle_tests old session) checks (Either (Ended (Ok (told.Reply (replies.Settled (settled_position old found)))) (settled found old)) (Breaks old))

-- several sessions at once, by the fold of what one does
abbrev pub SettlesAll : DeskState → List ℤ → Ends
SettlesAll old sessions =
    Passing old (settle_all_tests old sessions) checks
    (Either (Ended (Ok (told.Reply (replies.SettledAll (positions_each sessions old)))) (settled_each sessions old)) (Breaks old))

-- the start and the recorded position need no frames
abbrev pub AtPosition : DeskState → Option Registration → ℤ → Ends → Ends
AtPosition old None position ends outcome new = UnlessBoundary old ends outcome new
AtPosition old (Some r) position ends outcome new = MatchBool (is_end position r) (ends outcome new) (UnlessBoundary old ends outcome new)

abbrev pub Opens : DeskState → ℤ → ℤ → ℤ → Ends
Opens old id position size =
    let found = registration_in old.register id in
    let next = begins_at position found in
    let tests = open_tests old id position size true in
    Passing old tests first_checks (AtPosition old found next
    (Passing old tests (block_checks ++ last_checks) (Ended (Ok (told.Reply (replies.ReplayOpened old.callers.next_replay))) (after_open id next (bound_of next size) old))))

-- The frames of a poll begin at the next position and end at or below the recorded one. There are some exactly where
-- the next position is below the bound and the recorded position.
abbrev pub MovesReplay : Registration → OpenReplay → Written → Type 0
MovesReplay r replay frames =
    (frames.first ≡ replay.next)
    × (((replay.next <ℤ frames.last) × (frames.last ≤ℤ r.recorded) × (replay.next <ℤ replay.bound))
    ⊎ ((frames.last ≡ replay.next) × ((replay.bound ≤ℤ replay.next) ⊎ (r.recorded ≤ℤ replay.next))))

-- A limit holds the replay back. Its own bound decides if it is done.
abbrev pub GivesFrames : DeskState → Option ℤ → Option OpenReplay → Option Registration → Ends
GivesFrames old limit None found outcome new = ⊥
GivesFrames old limit (Some replay) None outcome new = ⊥
GivesFrames old limit (Some replay) (Some r) outcome new =
    (frames : Written) × MovesReplay r (held_back limit replay) frames × Ended (Ok (told.Polled frames (is_done_at r replay.bound frames.last))) (after_poll replay.number frames.last old) outcome new

-- the recording that a replay gives
abbrev pub recording_of : DeskState → Option OpenReplay → Option Registration
recording_of d None = None
recording_of d (Some replay) = registration_in d.register replay.recording

abbrev pub Polls : DeskState → ℤ → ℤ → Option ℤ → Ends
Polls old number most limit =
    let found = open_replay_in old number in
    Passing old (poll_tests old number most limit) checks (Either (Unread old) (GivesFrames old limit found (recording_of old found)))

abbrev pub Closes : DeskState → ℤ → Ends
Closes old number = Passing old (close_tests old number) checks (Ended (Ok (told.Reply replies.Closed)) (after_close number old))

-- a stale file was removed or there was none; or the device failed, which leaves the archive unbroken
abbrev pub Sweeps : DeskState → Ends
Sweeps old = Passing old (sweep_tests old) checks (λ outcome new. ((removed : Bool) × Ended (Ok (told.Reply (replies.Swept removed))) old outcome new) ⊎ Faults old outcome new)

abbrev pub Verifies : DeskState → ℤ → Ends
Verifies old id = Passing old (verify_tests old id) checks (λ outcome new. ((frames : ℤ) × Ended (Ok (told.Reply (replies.Verified frames))) old outcome new) ⊎ Unread old outcome new)

-- the catalogue's banks, which the desk doesn't know, may refuse a checkpoint: the other one may not be written, or the
-- epoch is the last one
abbrev pub RefusedByBanks : DeskState → Ends
RefusedByBanks old = Either (RefusesCall old NotCatalogue) (RefusesCall old HistoryFull)

-- how full the history is refuses no checkpoint
abbrev pub Checkpoints : DeskState → Ends
Checkpoints old = Passing old (sweep_tests old) checks
    (Either (Ended (Ok (told.Reply replies.Checkpointed)) (checkpointed old)) (Either (RefusedByBanks old) (Breaks old)))

-- The desk machine
abbrev pub Step : DeskState → Asked → Outcome → DeskState → Type 0
Step old (calls.Ask request) = Decided old (decision_of old request)
Step old (calls.Write session block) = Writes old session block
Step old (calls.Settle session) = Settles old session
Step old (calls.SettleAll sessions) = SettlesAll old sessions
Step old (calls.ReplayOpen recording position size) = Opens old recording position size
Step old (calls.ReplayPoll replay most limit) = Polls old replay most limit
Step old (calls.ReplayClose replay) = Closes old replay
Step old calls.Sweep = Sweeps old
Step old (calls.Verify recording) = Verifies old recording
Step old calls.Checkpoint = Checkpoints old

-- a run of the desk machine
abbrev pub Run : DeskState → List (Asked × Outcome) → DeskState → Type 0
Run old [] new = new ≡ old
Run old (call ∷ calls) new = (mid : DeskState) × Step old call.0 call.1 mid × Run mid calls new

-- ---- what stands in place of an answer

-- want of memory, which changes nothing, or a device fault where the device had one, which leaves what it may
abbrev pub Outside : {S : Type 0} → S → Type 0 → (S → Type 0) → Refusal → S → Type 0
Outside old faulted Left NoMemory new = new ≡ old
Outside old faulted Left DeviceFault new = faulted × Left new
Outside old faulted Left refusal new = ⊥

-- what a call ends with, or what stands in its place
abbrev pub OrOutside : {S A : Type 0} → S → Type 0 → (S → Type 0) → (Result A Refusal → S → Type 0) → Result A Refusal → S → Type 0
OrOutside old faulted Left ends (Ok answer) new = ends (Ok answer) new
OrOutside old faulted Left ends (Err refusal) new = ends (Err refusal) new ⊎ Outside old faulted Left refusal new

-- a call of the archive: a step of the machine, or want of memory, which changes nothing
abbrev pub Stepped : DeskState → Asked → Outcome → DeskState → Type 0
Stepped old asked = OrOutside old ⊥ (λ new. ⊥) (Step old asked)
