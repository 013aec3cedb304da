-- The seats of the recorder sessions that images feed, and the passes: docs/ARCHITECTURE.md, "The board".
use Rattle.std.specs.Prelude.{◌≡◌, ◌+◌, ◌<◌, ◌≤◌, ℕ, ℤ, true, List, [], ◌∷◌, Option, Some, Result, Err, IsErrOf, MatchOption, MatchResult}
use Rattle.std.specs.List.{zip}
use Rattle.atomic_table.specs.Seated.{TableId}
use Rattle.frame_core.specs.declared.refusal.Refusal.{Refusal}
use Rattle.frame_core.specs.declared.refusal.Refusal.TheVariants.{NoMemory}
use Rattle.disk_core.specs.Life.{Life}
use Rattle.archive_model.specs.declared.reply.Reply.{Reply}
use Rattle.control_core.specs.declared.event.Event.{Event}
use Rattle.control_core.specs.declared.event.Event.TheVariants.{Settle, SettleAll}
use Rattle.control_core.specs.Desk.{DeskState}
use Rattle.engine_core.specs.Engine.{EngineState}
use Rattle.call_history.specs.Passes.{AllOfTable, HasEach, has_number}
use Rattle.call_history.specs.Values.{PassView}
use Rattle.position_board.specs.Positions.{Published}
use Rattle.archive_lock.specs.declared.history.Made.{Made}
use Rattle.archive_lock.specs.declared.standing.Standing.{Standing}
use Rattle.archive_lock.specs.History.{EndsWithAnswer, IsNoted, LeadsToDesk, SeesDesk}
use Rattle.archive_lock.specs.Standing.{standing_of}
use Rattle.recorder_seats.specs.declared.bench.BenchSeat.{BenchSeat}
use Rattle.recorder_seats.specs.Bench.{BenchView, group_outcome, raised_at, raised_each, seat_session, sessions_at}
use Rattle.recorder_seats.specs.Seat.{raised_positions, settling_outcome}

-- ---- seats

-- a board, and the bench that raises its slots
pub record SeatsView : Type 0 where
  pub board : TableId
  pub bench : BenchView

-- a writer of a slot of this board, which has raised nothing
pub record IsNewWriter (board : TableId) (n : ℕ) (writer : Published) : Type 0 where
  pub table : writer.table ≡ board
  pub slot : writer.slot ≡ n
  pub none : raised_positions writer ≡ []

-- the writers of the slots from one on, one after another
abbrev pub AreNewWriters : TableId → ℕ → List Published → Type 0
AreNewWriters board n [] = Unit {0}
AreNewWriters board n (writer ∷ writers) = IsNewWriter board n writer × AreNewWriters board (n + 1) writers

-- the seats of the slots from one on, whose writers have raised nothing
abbrev pub AreNewSeats : TableId → ℕ → List BenchSeat → Type 0
AreNewSeats board n [] = Unit {0}
AreNewSeats board n (seat ∷ seats) = IsNewWriter board n seat.writer × AreNewSeats board (n + 1) seats

-- the seat of a number: its writer is of that slot of this board. It writes for any session.
pub record IsSeat (board : TableId) (n : ℕ) (seat : BenchSeat) : Type 0 where
  pub writer : seat.writer.table ≡ board
  pub slot : seat.writer.slot ≡ n

-- the seats from a number on, one after another
abbrev pub AreSeats : TableId → ℕ → List BenchSeat → Type 0
AreSeats board n [] = Unit {0}
AreSeats board n (seat ∷ seats) = IsSeat board n seat × AreSeats board (n + 1) seats

-- the bench's pass is the first of this history, and its seats are those of this board by their numbers
pub record IsBench (history board : TableId) (bench : BenchView) : Type 0 where
  pub table : bench.pass.table ≡ history
  pub number : bench.pass.number ≡ 0
  pub seats : AreSeats board 0 bench.seats

-- where the archive stands comes with what is answered to a call, by all that the pass then has seen; it does not with want of
-- memory
abbrev pub ComesWithStanding : {A : Type 0} → EngineState → Result A Refusal → Result Reply Refusal → PassView Made → Option Standing → Type 0
ComesWithStanding opening answer outcome after standing = MatchOption standing (answer ≡ Err NoMemory) (λ s. IsNoted outcome × LeadsToDesk opening after.seen (λ d. s ≡ standing_of d))

-- the pass alone changes
abbrev pub ChangesPass : SeatsView → SeatsView → Type 0
ChangesPass old new = new ≡ record old { bench = record old.bench { pass = new.bench.pass } }

-- the pass sees all calls so far, and this is so of the desk that they lead to
pub record SeesAt (opening : EngineState) (Is : DeskState → Type 0) (old new : SeatsView) : Type 0 where
  pub sees : SeesDesk opening old.bench.pass Is new.bench.pass
  pub same : ChangesPass old new

module _ {D : Type 0} (life : D → Life) (opening : EngineState) where
  -- the pass makes a call
  pub record MakesCall (event : Event) (old : SeatsView) (result : Result Reply Refusal × Option Standing) (new : SeatsView) : Type 0 where
    pub answers : IsNoted result.0 → EndsWithAnswer life opening old.bench.pass event result.0 new.bench.pass
    pub unnoted : IsErrOf result.0 NoMemory → new.bench.pass ≡ old.bench.pass
    pub standing : ComesWithStanding opening result.0 result.0 new.bench.pass result.1
    pub same : ChangesPass old new

  -- the session of a seat is settled, and its slot raised to what was answered
  pub record SettlesSession (seat : ℕ) (old : SeatsView) (result : Result ℤ Refusal × Option Standing) (new : SeatsView) : Type 0 where
    pub answers : IsNoted (settling_outcome result.0) → EndsWithAnswer life opening old.bench.pass (Settle (seat_session old.bench.seats seat)) (settling_outcome result.0) new.bench.pass
    pub unnoted : IsErrOf result.0 NoMemory → new.bench.pass ≡ old.bench.pass
    pub standing : ComesWithStanding opening result.0 (settling_outcome result.0) new.bench.pass result.1
    pub raised : MatchResult result.0 (λ position. new.bench.seats ≡ raised_at seat (Some position) old.bench.seats) (λ _. new.bench.seats ≡ old.bench.seats)
    pub board : new.board ≡ old.board

  -- the sessions of several seats are settled together, and the slot of each is raised to its own position
  pub record SettlesGroup (seats : List ℕ) (old : SeatsView) (result : Result (List (Option ℤ)) Refusal × Option Standing) (new : SeatsView) : Type 0 where
    pub answers : IsNoted (group_outcome result.0) → EndsWithAnswer life opening old.bench.pass (SettleAll (sessions_at seats old.bench.seats)) (group_outcome result.0) new.bench.pass
    pub unnoted : IsErrOf result.0 NoMemory → new.bench.pass ≡ old.bench.pass
    pub standing : ComesWithStanding opening result.0 (group_outcome result.0) new.bench.pass result.1
    pub raised : MatchResult result.0 (λ positions. new.bench.seats ≡ raised_each (zip seats positions) old.bench.seats) (λ _. new.bench.seats ≡ old.bench.seats)
    pub board : new.board ≡ old.board

-- ---- passes

-- passes with each number from one on, below a count, are among them
abbrev pub HasNumbersFrom : ℕ → ℕ → List (PassView Made) → Type 0
HasNumbersFrom k count passes = (n : ℕ) → k ≤ n → n < count → has_number n passes ≡ true

-- passes of this history that clients have: each from 1 on, of so many, is among them
abbrev pub AreClientPasses : TableId → ℕ → List (PassView Made) → Type 0
AreClientPasses table count passes = AllOfTable table passes × HasNumbersFrom 1 count passes

-- passes of this history, each of so many among them
abbrev pub AreAllPasses : TableId → ℕ → List (PassView Made) → Type 0
AreAllPasses table count passes = AllOfTable table passes × HasEach count passes
