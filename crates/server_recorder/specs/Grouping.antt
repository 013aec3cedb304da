-- Which sessions settle together: docs/SERVING.md, "When a frame is durable". A seat is a number below 64.
use Rattle.std.specs.Prelude.{◌||◌, ℕ, ℤ, Bool, false, List, map, filter, Option, None, Some, slice_index_or}
use Rattle.std.specs.List.{filter_map, range_with_len}
use Rattle.server_recorder.specs.declared.settling.Settling.{Settling}
use Rattle.server_recorder.specs.declared.settling.Written.{Written}
use Rattle.server_state.specs.declared.queue.Taken.{Taken}
use Rattle.server_recorder.specs.Settling.{is_due, is_half_due, session_at}

-- the seats, in rising order
abbrev pub all_seats : List ℕ
all_seats = range_with_len 0 64

-- a list has true at a seat
abbrev pub has_seat : List Bool → ℕ → Bool
has_seat seats seat = slice_index_or seats seat false

-- the session at a seat is due; where no more blocks come, each that wrote something is
abbrev pub is_due_at : Bool → Taken → Settling → ℕ → Bool
is_due_at waits taken s seat = is_due s.every s.time waits (taken.is_over || has_seat taken.asked seat) (session_at seat s.sessions)

-- of each seat whether its session is due
abbrev pub due_seats : Bool → Taken → Settling → List Bool
due_seats waits taken s = map (is_due_at waits taken s) all_seats

abbrev pub is_near_at : Settling → ℕ → Bool
is_near_at s seat = is_half_due s.every s.time (session_at seat s.sessions).written

-- it is one of these seats, or what its session wrote has waited for at least half as long as a block may
abbrev pub near_or_due : Settling → List Bool → ℕ → Bool
near_or_due s due seat = has_seat due seat || is_near_at s seat

-- of each seat whether it is so
abbrev pub with_near : Settling → List Bool → List Bool
with_near s due = map (near_or_due s due) all_seats

-- the numbers of these seats, in rising order
abbrev pub seats_of : List Bool → List ℕ
seats_of seats = filter (has_seat seats) all_seats

abbrev pub written_session : Option Written → Option ℤ
written_session None = None
written_session (Some w) = Some w.session

-- the number of the session at a seat, if it wrote something that it did not settle
abbrev pub session_written : Settling → ℕ → Option ℤ
session_written s seat = written_session (session_at seat s.sessions).written

-- of several seats, in their order, the sessions that wrote something
abbrev pub sessions_written : Settling → List ℕ → List ℤ
sessions_written s seats = filter_map (session_written s) seats
