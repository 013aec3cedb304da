-- One pass for all recorder sessions of a thread, with a writer for each: docs/ARCHITECTURE.md, "The board". What a writer raised
-- was settled by calls of the pass.
use Rattle.std.specs.Prelude.{◌≡◌, ◌⊎◌, ℕ, ℤ, negsuc, List, [], ◌∷◌, Contains, Option, Some, None, slice_get, slice_set, Result, Ok, Err}
use Rattle.atomic_table.specs.Seated.{TableId}
use Rattle.frame_core.specs.declared.refusal.Refusal.{Refusal}
use Rattle.archive_model.specs.declared.reply.Reply.{Reply}
use Rattle.archive_model.specs.declared.reply.Reply.TheVariants.{Settled, SettledAll}
use Rattle.archive_model.specs.Keyed.{Each}
use Rattle.control_core.specs.declared.event.Event.TheVariants.{Settle, SettleAll}
use Rattle.call_history.specs.Values.{PassView}
use Rattle.position_board.specs.Positions.{Published}
use Rattle.archive_lock.specs.declared.history.Made.{Made}
use Rattle.archive_lock.specs.Durable.{AnswersSession}
use Rattle.recorder_seats.specs.declared.bench.BenchSeat.{BenchSeat}
use Rattle.recorder_seats.specs.Seat.{raised_positions, raised_unless_below}

-- ---- what was raised

-- the call settled a session up to this position: it alone, or several sessions with it
abbrev pub SettlesTo : Made → ℤ → ℤ → Type 0
SettlesTo call session position =
    ((call.asked ≡ Settle session) × (call.outcome ≡ Ok (Settled position)))
    ⊎ ((sessions : List ℤ) × (positions : List (Option ℤ)) × (call.asked ≡ SettleAll sessions)
    × (call.outcome ≡ Ok (SettledAll positions)) × AnswersSession sessions positions session position)

-- one of these calls settled a session up to this position
pub record IsSettledAmong (calls : List Made) (position : ℤ) : Type 0 where
  pub call : Made
  pub among : Contains calls call
  pub session : ℤ
  pub settles : SettlesTo call session position

-- each position that the writer raised was answered to a settling among the pass's own calls, of one session or of several
abbrev pub RaisedAreAmong : PassView Made → Published → Type 0
RaisedAreAmong pass writer = Each (IsSettledAmong pass.own) (raised_positions writer)

-- so it is of each writer of these seats
abbrev pub AllAreAmong : PassView Made → List BenchSeat → Type 0
AllAreAmong pass seats = Each (λ (seat : BenchSeat). RaisedAreAmong pass seat.writer) seats

-- their writers have raised nothing
abbrev pub AreUnraised : List BenchSeat → Type 0
AreUnraised seats = Each (λ (seat : BenchSeat). raised_positions seat.writer ≡ []) seats

-- their writers are of this board
abbrev pub AreOfBoard : TableId → List BenchSeat → Type 0
AreOfBoard board seats = Each (λ (seat : BenchSeat). seat.writer.table ≡ board) seats

-- ---- a bench

-- its pass, and its seats by their indices
pub record BenchView : Type 0 where
  pub pass : PassView Made
  pub seats : List BenchSeat

-- the session of a seat; -1, which no session has, where there is none
abbrev pub session_of : Option BenchSeat → ℤ
session_of None = negsuc 0
session_of (Some seat) = seat.session

-- the session of the seat at an index
abbrev pub seat_session : List BenchSeat → ℕ → ℤ
seat_session seats n = session_of (slice_get seats n)

-- of the seats at these indices, in their order
abbrev pub sessions_at : List ℕ → List BenchSeat → List ℤ
sessions_at [] seats = []
sessions_at (n ∷ ns) seats = seat_session seats n ∷ sessions_at ns seats

-- the seat at an index is changed so, if there is one
abbrev pub changed_seat : Option BenchSeat → ℕ → (BenchSeat → BenchSeat) → List BenchSeat → List BenchSeat
changed_seat None n change seats = seats
changed_seat (Some seat) n change seats = slice_set seats n (change seat)

abbrev pub changed_at : ℕ → (BenchSeat → BenchSeat) → List BenchSeat → List BenchSeat
changed_at n change seats = changed_seat (slice_get seats n) n change seats

-- it writes for another session
abbrev pub reseated_at : ℕ → ℤ → List BenchSeat → List BenchSeat
reseated_at n session seats = changed_at n (λ seat. record seat { session = session }) seats

-- its writer raises its slot to a position, if there is one, unless that is below its last
abbrev pub raised_at : ℕ → Option ℤ → List BenchSeat → List BenchSeat
raised_at n None seats = seats
raised_at n (Some position) seats = changed_at n (λ seat. record seat { writer = raised_unless_below position seat.writer }) seats

-- so do those at several indices, each to its own position
abbrev pub raised_each : List (ℕ × Option ℤ) → List BenchSeat → List BenchSeat
raised_each [] seats = seats
raised_each (raising ∷ raisings) seats = raised_each raisings (raised_at raising.0 raising.1 seats)

-- the archive's answer to a settling of several sessions, of which the caller is handed the positions
abbrev pub group_outcome : Result (List (Option ℤ)) Refusal → Result Reply Refusal
group_outcome (Ok positions) = Ok (SettledAll positions)
group_outcome (Err refusal) = Err refusal
