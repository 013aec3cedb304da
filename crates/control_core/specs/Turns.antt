-- What is decided on a call that is no request: writing and settling, replays, sweeping and verifying.
-- docs/CONTROL.md, "Recorder sessions", "Replays" and "Refusals".
use Rattle.std.specs.Prelude.{◌≡◌, ◌≢◌, ◌<◌, ◌&&◌, ◌||◌, ◌++◌, not, ℤ, pos, negsuc, Bool, true, false, IsSomeAnd, IsTrue, List, [], ◌∷◌, length, nat_le, nat_lt, int_le, int_lt, Option, Some, None, is_some, Result, Ok, Err, if◌then◌else◌}
use Rattle.std.specs.Bool.{MatchBool}
use Rattle.std.specs.List.{list_any}
use Rattle.std.specs.Ordering.{int_eq}
use Rattle.frame_core.specs.declared.block.Block.{Block}
use Rattle.frame_core.specs.declared.refusal.Refusal.{Refusal}
use Rattle.frame_core.specs.declared.refusal.Refusal.TheVariants.{BadBlock, BadParameter, BadPosition, Broken, HistoryFull, MaxReplays, NeedSettle, StaleSession, UnknownRecording, UnknownReplay}
use Rattle.frame_core.specs.Block.{IsBlock, end_position}
use Rattle.frame_core.specs.ReplayEnd.{bound_of, is_done}
use Rattle.archive_model.specs.declared.registration.Registration.{Registration}
use Rattle.archive_model.specs.declared.reply.Reply.{Reply}
use Rattle.archive_model.specs.declared.reply.Reply.TheVariants.{Closed, Written as WrittenReply}
use Rattle.archive_model.specs.Keyed.{find}
use Rattle.archive_model.specs.Checks.{Tests, block_checks, checked, checks, first_checks, is_boundary_by, is_of, last_checks}
use Rattle.archive_model.specs.Register.{is_active, is_end, registration_in}
use Rattle.archive_model.specs.State.{geometry_of, publication_of}
use Rattle.record_core.specs.declared.recording.Recording.{Recording}
use Rattle.record_core.specs.Writing.{needs_settle}
use Rattle.control_core.specs.declared.callers.OpenReplay.{OpenReplay}
use Rattle.control_core.specs.declared.callers.RecorderSession.{RecorderSession}
use Rattle.control_core.specs.declared.callers.Written.{Written}
use Rattle.control_core.specs.declared.turns.FoundWriting.{FoundWriting}
use Rattle.control_core.specs.declared.turns.Opening.{Opening}
use Rattle.control_core.specs.Opened.{OpeningDecision}
use Rattle.control_core.specs.Opened as opening
use Rattle.control_core.specs.declared.turns.Settling.{Settling}
use Rattle.control_core.specs.declared.turns.Settling.TheVariants as settling
use Rattle.control_core.specs.Callers.{last_number, replay_number, session_number, written_to}
use Rattle.control_core.specs.Desk.{DeskState, has_room}
use Rattle.control_core.specs.Changes.{next_position, recorded_of, settled_each}
use Rattle.control_core.specs.Seats.{IsWriter}

abbrev pub session_in : DeskState → ℤ → Option RecorderSession
session_in d number = find session_number number d.callers.sessions

abbrev pub open_replay_in : DeskState → ℤ → Option OpenReplay
open_replay_in d number = find replay_number number d.callers.replays

-- ---- writing

-- the block begins where the session's next one has to
abbrev pub continues : DeskState → Option RecorderSession → Written → Bool
continues d None block = false
continues d (Some s) block = int_eq block.first (next_position d s)

abbrev pub has_written : Option RecorderSession → Bool
has_written None = false
has_written (Some s) = is_some s.written

-- a session's part of its recording: where what it wrote ends, and up to where it is recorded
abbrev pub part_of : Registration → RecorderSession → Recording
part_of known s = record { session = s.number; written = written_to s.written known.recorded; committed = known.recorded }

-- what a session wrote has to be settled first, since its next block would begin in another segment
abbrev pub is_waiting : DeskState → Option RecorderSession → Bool
is_waiting d None = false
is_waiting d (Some s) = is_of (registration_in d.register s.recording) (λ known. needs_settle known.descriptor (part_of known s))

-- `fits`: the block is one of the recording's terms, session and stream
abbrev pub write_tests : DeskState → ℤ → Written → Bool → Tests
write_tests d number block fits Broken = not d.is_broken
write_tests d number block fits StaleSession = is_some (session_in d number)
write_tests d number block fits BadBlock = fits && continues d (session_in d number) block
write_tests d number block fits NeedSettle = not (is_waiting d (session_in d number))
write_tests d number block fits _ = true

-- a block is written, up to its end, or refused
abbrev pub write_decision : DeskState → ℤ → Written → Bool → Result Reply Refusal
write_decision d number block fits = checked (write_tests d number block fits) checks (Ok (WrittenReply block.last))

-- from where to where a block lies
abbrev pub extent_of : Block → Written
extent_of block = record { first = block.position; last = end_position block }

-- the block is one of the terms, session and stream of the recording that a session writes
abbrev pub IsOfSession : DeskState → Option RecorderSession → Block → Type 0
IsOfSession d None block = ⊥
IsOfSession d (Some s) block = IsSomeAnd (registration_in d.register s.recording) (λ r. IsBlock (geometry_of r.descriptor) (publication_of r.descriptor) block)

-- who writes a block that may be written, and where it lies
pub record AllowsWriting (d : DeskState) (number : ℤ) (block : Block) (found : FoundWriting) : Type 0 where
  pub writer : IsWriter number d found.writer
  pub is_block : IsBlock (geometry_of found.writer.known.now.descriptor) (publication_of found.writer.known.now.descriptor) block
  pub span : found.span ≡ extent_of block
  pub decided : write_decision d number (extent_of block) true ≡ Ok (WrittenReply (end_position block))

-- why a block is not written, which may be one of its session's recording or not
abbrev pub RefusesWriting : DeskState → ℤ → Block → Refusal → Type 0
RefusesWriting d number block refusal =
    (fits : Bool) × MatchBool fits (IsOfSession d (session_in d number) block) (IsOfSession d (session_in d number) block → ⊥)
    × (write_decision d number (extent_of block) fits ≡ Err refusal)

-- ---- settling

abbrev pub settle_tests : DeskState → ℤ → Tests
settle_tests d number Broken = not d.is_broken
settle_tests d number StaleSession = is_some (session_in d number)
settle_tests d number HistoryFull = not (has_written (session_in d number)) || has_room d
settle_tests d number _ = true

abbrev pub settling_by : DeskState → RecorderSession → Option Written → Settling
settling_by d s None = settling.Nothing (recorded_of (registration_in d.register s.recording))
settling_by d s (Some w) = settling.Blocks s.recording w

-- what there is to settle
abbrev pub settling_of : DeskState → Option RecorderSession → Settling
settling_of d None = settling.Nothing (pos 0)
settling_of d (Some s) = settling_by d s s.written

abbrev pub settle_decision : DeskState → ℤ → Result Settling Refusal
settle_decision d number = checked (settle_tests d number) checks (Ok (settling_of d (session_in d number)))

-- A settling that is decided on: the archive works, and this is what there is to settle of the session of that number.
pub record DecidesSettling (d : DeskState) (number : ℤ) (settles : Settling) : Type 0 where
  pub works : d.is_broken ≡ false
  pub session : RecorderSession
  pub found : session_in d number ≡ Some session
  pub number_is : session.number ≡ number
  pub is : settling_by d session session.written ≡ settles

-- ---- settling several sessions

-- no number stands twice
abbrev pub are_once : List ℤ → Bool
are_once [] = true
are_once (n ∷ ns) = not (list_any (int_eq n) ns) && are_once ns

-- one of them wrote something
abbrev pub wrote_any : DeskState → List ℤ → Bool
wrote_any d ns = nat_lt d.counted (settled_each ns d).counted

-- the history has room for an entry of each of them that wrote something
abbrev pub has_room_for_each : DeskState → List ℤ → Bool
has_room_for_each d ns = not (wrote_any d ns) || nat_le (settled_each ns d).counted d.limit

-- a number that no open session has is let through
abbrev pub settle_all_tests : DeskState → List ℤ → Tests
settle_all_tests d ns Broken = not d.is_broken
settle_all_tests d ns BadParameter = nat_le (length ns) 64 && are_once ns
settle_all_tests d ns HistoryFull = has_room_for_each d ns
settle_all_tests d ns _ = true

-- ---- opening a replay

-- where a replay begins that was asked for at a position: -1 means the start
abbrev pub begins_at : ℤ → Option Registration → ℤ
begins_at position None = position
begins_at position (Some r) = if int_eq position (negsuc 0) then r.descriptor.start_position else position

-- `begins`: a frame begins there
abbrev pub open_tests : DeskState → ℤ → ℤ → ℤ → Bool → Tests
open_tests d id position size begins BadParameter = int_le (negsuc 0) position && int_le (negsuc 0) size
open_tests d id position size begins UnknownRecording = is_some (registration_in d.register id)
open_tests d id position size begins BadPosition = is_of (registration_in d.register id) (is_boundary_by begins (begins_at position (registration_in d.register id)))
open_tests d id position size begins MaxReplays = nat_lt (length d.callers.replays) 64 && not (int_eq d.callers.next_replay last_number)
open_tests d id position size begins _ = true

-- the replay that is asked for
abbrev pub opening_of : DeskState → ℤ → ℤ → ℤ → Opening
opening_of d id position size =
    let next = begins_at position (registration_in d.register id) in record { recording = id; next = next; bound = bound_of next size }

-- the start and the recorded position are boundaries, whatever the frames are
abbrev pub opened_at : Option Registration → Result Opening Refusal → ℤ → OpeningDecision
opened_at None behind next = opening.IfBoundary next behind
opened_at (Some r) behind next = if is_end next r then opening.Decided behind else opening.IfBoundary next behind

abbrev pub opening_decided : Result OpeningDecision Refusal → OpeningDecision
opening_decided (Ok decision) = decision
opening_decided (Err refusal) = opening.Decided (Err refusal)

-- what comes behind the test of the position is decided beforehand
abbrev pub open_decision : DeskState → ℤ → ℤ → ℤ → OpeningDecision
open_decision d id position size =
    let tests = open_tests d id position size true in
    let behind = checked tests (block_checks ++ last_checks) (Ok (opening_of d id position size)) in
    let in_front : Result OpeningDecision Refusal = checked tests first_checks (Ok (opened_at (registration_in d.register id) behind (begins_at position (registration_in d.register id)))) in
    opening_decided in_front

-- the replay that a decision leads to, if a frame begins where it asks
abbrev pub opening_in : OpeningDecision → Option Opening
opening_in (opening.Decided (Ok o)) = Some o
opening_in (opening.Decided (Err refusal)) = None
opening_in (opening.IfBoundary position (Ok o)) = Some o
opening_in (opening.IfBoundary position (Err refusal)) = None

-- a replay may be opened: fewer than 64 are open, there is a number for it, and its recording is there
pub record MayOpen (d : DeskState) (o : Opening) : Type 0 where
  pub few : length d.callers.replays < 64
  pub number : d.callers.next_replay ≢ last_number
  pub there : IsTrue (is_some (registration_in d.register o.recording))

-- ---- polling and closing

-- a replay of the recording is done that has come to a position
abbrev pub is_done_at : Registration → ℤ → ℤ → Bool
is_done_at r bound next = is_done bound next r.recorded (is_active r)

-- a poll's frames begin before this position: the replay's bound, or a limit that is less
abbrev pub held_to : Option ℤ → ℤ → ℤ
held_to None bound = bound
held_to (Some limit) bound = if int_lt limit bound then limit else bound

-- the replay, with the lesser of limit and bound as its bound
abbrev pub held_back : Option ℤ → OpenReplay → OpenReplay
held_back limit replay = record replay { bound = held_to limit replay.bound }

-- a limit is not below 0
abbrev pub is_limit : Option ℤ → Bool
is_limit None = true
is_limit (Some limit) = int_le (pos 0) limit

abbrev pub poll_tests : DeskState → ℤ → ℤ → Option ℤ → Tests
poll_tests d number most limit BadParameter = int_le (pos 1) most && int_le most (pos 4096) && is_limit limit
poll_tests d number most limit UnknownReplay = is_some (open_replay_in d number)
poll_tests d number most limit _ = true

-- a replay to be read from, if it is open
abbrev pub open_replay_of : Option OpenReplay → Result OpenReplay Refusal
open_replay_of None = Err UnknownReplay
open_replay_of (Some replay) = Ok replay

-- the replay that a poll reads from, with a limit or without; or a refusal
abbrev pub poll_decision : DeskState → ℤ → ℤ → Option ℤ → Result OpenReplay Refusal
poll_decision d number most limit = checked (poll_tests d number most limit) checks (open_replay_of (open_replay_in d number))

abbrev pub close_tests : DeskState → ℤ → Tests
close_tests d number UnknownReplay = is_some (open_replay_in d number)
close_tests d number _ = true

abbrev pub close_decision : DeskState → ℤ → Result Reply Refusal
close_decision d number = checked (close_tests d number) checks (Ok Closed)

-- ---- sweeping, checkpoints and verifying

-- nothing but a failed write refuses them
abbrev pub sweep_tests : DeskState → Tests
sweep_tests d Broken = not d.is_broken
sweep_tests d _ = true

abbrev pub verify_tests : DeskState → ℤ → Tests
verify_tests d id UnknownRecording = is_some (registration_in d.register id)
verify_tests d id _ = true
