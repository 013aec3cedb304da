-- What holds of an archive between calls, and of the commands that its calls make. docs/CONTROL.md, "Control state".
use Rattle.std.specs.Prelude.{◌≡◌, ◌⊎◌, ◌+ℤ◌, ◌<◌, ℤ, pos, Bool, true, false, IsFalse, IsTrue, IsSomeAnd, List, [], ◌∷◌, ◌++◌, length, ◌≤◌, ◌≢◌, Option, Some, None, is_some}
use Rattle.frame_core.specs.Block.{covered}
use Rattle.archive_model.specs.declared.command.Command.{Command}
use Rattle.archive_model.specs.declared.command.Command.TheVariants.{Append, Restart}
use Rattle.archive_model.specs.Keyed.{Each, find}
use Rattle.archive_model.specs.Register.{is_later_base}
use Rattle.archive_model.specs.State.{Recording, State, id_of, registration_of}
use Rattle.archive_model.specs.Commands.{frames_of, purged, recorded_in}
use Rattle.archive_model.specs.Accepting.{Accepts, Follow}
use Rattle.archive_model.specs.Replay.{is_boundary}
use Rattle.archive_model.specs.WellFormed.{IsWell}
use Rattle.control_core.specs.declared.callers.OpenReplay.{OpenReplay}
use Rattle.control_core.specs.declared.callers.RecorderSession.{RecorderSession}
use Rattle.control_core.specs.declared.callers.Written.{Written}
use Rattle.control_core.specs.declared.turns.Settling.{Settling}
use Rattle.control_core.specs.declared.turns.Settling.TheVariants as settling
use Rattle.control_core.specs.Changes.{desk_after, settled}
use Rattle.control_core.specs.declared.event.Event.{Event}
use Rattle.control_core.specs.declared.event.Event.TheVariants as events
use Rattle.control_core.specs.Decisions.{Allows, asked_command}
use Rattle.control_core.specs.Turns.{session_in}
use Rattle.control_core.specs.Seats.{KeepsSeats}
use Rattle.control_core.specs.Agreement.{Agrees, HasWritten}
use Rattle.control_core.specs.Exact.{Archive, book_of, recording_at, settled_by_number, settling_in}
use Rattle.control_core.specs.Steps.{AreAcceptedSteps, AreAllowedSteps, BookStep, Entered, Recounted, books_after, desks_after}

-- the blocks of a session go on where its recording ends: from there on, and up to where, is what the desk says
pub record Wrote (a : Archive) (s : RecorderSession) (w : Written) : Type 0 where
  pub follow : Follow a.state s.recording (a.blocks s.number)
  pub first : w.first ≡ recorded_in (recording_at a s.recording)
  pub last : w.last ≡ recorded_in (recording_at a s.recording) +ℤ pos (covered (frames_of (a.blocks s.number)))

-- a session has blocks exactly where the desk says that it wrote
abbrev pub HasBlocks : Archive → RecorderSession → Option Written → Type 0
HasBlocks a s None = a.blocks s.number ≡ []
HasBlocks a s (Some w) = Wrote a s w

-- a replay goes on at its recording's start or end, or where a frame begins
abbrev pub IsAtBoundary : State → OpenReplay → Type 0
IsAtBoundary s replay = IsSomeAnd (find id_of replay.recording s.recordings) (λ r. IsTrue (is_boundary replay.next r))

-- The desk's register is the state's, which is well-formed; the desk keeps its seats; what each session wrote goes on
-- where its recording ends, and where no session is open nothing is written; the desk is broken exactly where a state is
-- in doubt.
pub record IsConsistent (a : Archive) : Type 0 where
  pub agrees : Agrees a.desk a.state
  pub well : IsWell a.state
  pub seats : KeepsSeats a.desk.register a.desk.callers
  pub blocks : Each (λ s. HasBlocks a s s.written) a.desk.callers.sessions
  pub unwritten : (n : ℤ) → session_in a.desk n ≡ None → a.blocks n ≡ []
  pub broken : a.desk.is_broken ≡ is_some a.doubt

-- each replay goes on at a boundary: of what was read, so where the disk obeyed the crash model
abbrev pub AreAtBoundaries : Archive → Type 0
AreAtBoundaries a = Each (IsAtBoundary a.state) a.desk.callers.replays

-- what is kept of a consistent archive, and of its replays where they were at boundaries
pub record StaysConsistent (a b : Archive) : Type 0 where
  pub consistent : IsConsistent b
  pub boundaries : AreAtBoundaries a → AreAtBoundaries b

-- a recording is as it was, or without its first segments
abbrev pub IsSameOrLater : Recording → Recording → Type 0
IsSameOrLater r new = (new ≡ r) ⊎ ((position : ℤ) × IsTrue (is_later_base position (registration_of r)) × (new ≡ purged position r))

-- a session's recording is there still
pub record RecordingStays (s : State) (session : RecorderSession) (r : Recording) : Type 0 where
  pub new : Recording
  pub found : find id_of session.recording s.recordings ≡ Some new
  pub is : IsSameOrLater r new

-- a session of an archive that changes to this state was open before, and its recording stays
pub record StaysOpen (a : Archive) (s : State) (session : RecorderSession) : Type 0 where
  pub was : session_in a.desk session.number ≡ Some session
  pub stays : (r : Recording) → recording_at a session.recording ≡ Some r → RecordingStays s session r

-- a session that wrote nothing
abbrev pub WroteNothing : Archive → RecorderSession → Type 0
WroteNothing a session = (session.written ≡ None) × (a.blocks session.number ≡ [])

-- a command that the archive accepts and its desk allows; what an append records is what the recording's session wrote
pub record IsAcceptable (a : Archive) (c : Command) : Type 0 where
  pub accepted : Accepts (book_of a) c
  pub allowed : Allows a.desk c
  pub written : HasWritten a.desk a.state c

-- the command that a request asks for, as a step
abbrev pub request_steps : Option Command → List BookStep
request_steps None = []
request_steps (Some c) = Entered c ∷ []

-- what there is to settle of a session is recorded by an append of its blocks, if there is something
abbrev pub append_of : Archive → ℤ → Settling → List BookStep
append_of a session (settling.Nothing position) = []
append_of a session (settling.Blocks id w) = Entered (Append id (a.blocks session)) ∷ []

-- what each of these sessions wrote is recorded, one after another
abbrev pub appends_of : Archive → List ℤ → List BookStep
appends_of a [] = []
appends_of a (n ∷ ns) = append_of a n (settling_in a n) ++ appends_of (settled_by_number a n (settling_in a n)) ns

-- The steps that a call asks for, in order: the command of its request, the appends of what its sessions wrote, or a
-- checkpoint. Other calls ask for none.
abbrev pub steps_asked : Archive → Event → List BookStep
steps_asked a (events.Ask request) = request_steps (asked_command request)
steps_asked a (events.Settle session) = append_of a session (settling_in a session)
steps_asked a (events.SettleAll sessions) = appends_of a sessions
steps_asked a events.Checkpoint = Recounted ∷ []
steps_asked a event = []

-- The call made the steps that it asked for, all of them, in order, each command accepted. What is recorded is that after
-- them. If there are some, the desk worked, allowed them, and is the one after them.
pub record MakesSteps (a b : Archive) (event : Event) : Type 0 where
  pub accepted : AreAcceptedSteps (book_of a) (steps_asked a event)
  pub allowed : AreAllowedSteps (book_of a) a.desk (steps_asked a event)
  pub book : book_of b ≡ books_after (book_of a) (steps_asked a event)
  pub works : steps_asked a event ≢ [] → IsFalse a.desk.is_broken
  pub desk : steps_asked a event ≢ [] → b.desk ≡ desks_after a.desk (steps_asked a event)

-- a call that settles several sessions asks for an append of each that wrote something, any other for one step at most
abbrev pub AsksFew : Archive → Event → Type 0
AsksFew a (events.SettleAll sessions) = length (steps_asked a (events.SettleAll sessions)) ≤ length sessions
AsksFew a event = length (steps_asked a event) ≤ 1

abbrev pub is_append : Command → Bool
is_append (Append id blocks) = true
is_append _ = false

-- a command that a request makes: each but an append, which settles, and a restart, which opens
abbrev pub is_asked : Command → Bool
is_asked (Append id blocks) = false
is_asked Restart = false
is_asked _ = true

-- what a settling of a session's blocks records is an append, which makes of the desk what the settling does, and has
-- room in the history
pub record SettlesByAppend (a : Archive) (session id : ℤ) : Type 0 where
  pub acceptable : IsAcceptable a (Append id (a.blocks session))
  pub same : desk_after a.desk (Append id (a.blocks session)) ≡ settled (session_in a.desk session) a.desk
  pub room : a.desk.counted < a.desk.limit
