-- When a session settles what it wrote: docs/SERVING.md, "When a frame is durable". Times are in milliseconds since the recording
-- thread began; there is none for a moment at which the clock could not be read.
use Rattle.std.specs.Prelude.{◌≡◌, ◌&&◌, ◌||◌, ◌+◌, ◌-◌, ◌/◌, ◌^◌, ◌<◌, ℕ, zero, ℤ, nat_le, min, not, if◌then◌else◌, Bool, true, false, List, Option, None, Some, is_some, slice_index_or, slice_set}
use Rattle.std.specs.List.{list_any}
use Rattle.std.specs.Ordering.{int_eq}
use Rattle.server_recorder.specs.declared.settling.SessionState.{SessionState}
use Rattle.server_recorder.specs.declared.settling.Settling.{Settling}
use Rattle.server_recorder.specs.declared.settling.Written.{Written}

-- ---- what sessions wrote and did not settle, by their seats

abbrev pub nothing_written : SessionState
nothing_written = record { written = None; settled_at = None }

-- the session of a number
abbrev pub session_at : ℕ → List SessionState → SessionState
session_at n sessions = slice_index_or sessions n nothing_written

-- a block of a session's, of an image, before which nothing waits
abbrev pub written_first : Option ℕ → ℤ → ℕ → ℤ → ℕ → Written
written_first time session image term bytes = record { session = session; image = image; term_id = term; bytes = bytes; since = time }

-- a block more of a session's, of an image: the term is its own, the bytes are the sum, short of the largest `u64`, and the
-- oldest block stays. What another session wrote, which had the seat before, does not count.
abbrev pub written_more : Option ℕ → ℤ → ℕ → ℤ → ℕ → Option Written → Written
written_more time session image term bytes None = written_first time session image term bytes
written_more time session image term bytes (Some w) =
    if int_eq w.session session
    then record { session = session; image = image; term_id = term; bytes = min (w.bytes + bytes) (2 ^ 64 - 1); since = w.since }
    else written_first time session image term bytes

abbrev pub after_block : Option ℕ → ℤ → ℕ → ℤ → ℕ → SessionState → SessionState
after_block time session image term bytes s = record s { written = Some (written_more time session image term bytes s.written) }

-- a session settles all that it wrote; one that wrote nothing stays
abbrev pub session_settled : ℕ → Settling → Settling
session_settled n s =
    if is_some (session_at n s.sessions).written
    then record s { sessions = slice_set s.sessions n (record { written = None; settled_at = s.time }) }
    else s

-- microseconds that each of so many syncs took; without one it is what it was
abbrev pub pace_after : ℕ → ℕ → ℕ → ℕ
pace_after micros zero pace = pace
pace_after micros syncs pace = micros / syncs

-- ---- when a session is due

-- milliseconds from one time to another: none if either is not known, or the clock went back
abbrev pub elapsed : Option ℕ → Option ℕ → Option ℕ
elapsed (Some from) (Some time) = if nat_le from time then Some (time - from) else None
elapsed from time = None

-- at least so many milliseconds have gone by, or nobody knows how many
abbrev pub has_lasted : ℕ → Option ℕ → Bool
has_lasted ms None = true
has_lasted ms (Some gone) = nat_le ms gone

-- the oldest block waited for so long, or the last settling is longer ago than that
abbrev pub waits_too_long : ℕ → Option ℕ → Option ℕ → Option Written → Bool
waits_too_long every time settled_at None = false
waits_too_long every time settled_at (Some w) = has_lasted every (elapsed w.since time) || has_lasted (every + 1) (elapsed settled_at time)

-- it is due by time alone
abbrev pub is_overdue : ℕ → Option ℕ → SessionState → Bool
is_overdue every time s = waits_too_long every time s.settled_at s.written

-- 1 MiB; or 65,536 bytes, and no further block waits
abbrev pub is_enough : Bool → ℕ → Bool
is_enough waits bytes = nat_le 1048576 bytes || (nat_le 65536 bytes && not waits)

abbrev pub wrote_enough : Bool → Option Written → Bool
wrote_enough waits None = false
wrote_enough waits (Some w) = is_enough waits w.bytes

-- it wrote something, and a client asked for its settling, or it is overdue, or it wrote enough
abbrev pub is_due : ℕ → Option ℕ → Bool → Bool → SessionState → Bool
is_due every time waits asked s = is_some s.written && (asked || is_overdue every time s || wrote_enough waits s.written)

-- it wrote enough while a further block waits
abbrev pub is_full : SessionState → Bool
is_full s = wrote_enough true s.written

-- how much a session of a number has written with so many bytes more, short of the largest `u64`
abbrev pub with_more : ℤ → ℕ → Option Written → ℕ
with_more session more None = min more (2 ^ 64 - 1)
with_more session more (Some w) = if int_eq w.session session then min (w.bytes + more) (2 ^ 64 - 1) else min more (2 ^ 64 - 1)

-- what it wrote has waited for at least half as long as a block may
abbrev pub is_half_due : ℕ → Option ℕ → Option Written → Bool
is_half_due every time None = false
is_half_due every time (Some w) = has_lasted (every - every / 2) (elapsed w.since time)

-- ---- when the first one is due

abbrev pub some_overdue : ℕ → Option ℕ → List SessionState → Bool
some_overdue every time sessions = list_any (is_overdue every time) sessions

-- so many milliseconds later
abbrev pub later : ℕ → Option ℕ → Option ℕ
later ms None = None
later ms (Some time) = Some (time + ms)

-- the least number that passes a test, or that none does
abbrev pub PassesFirst : (ℕ → Bool) → Option ℕ → Type 0
PassesFirst test None = (m : ℕ) → test m ≡ false
PassesFirst test (Some n) = (test n ≡ true) × ((m : ℕ) → m < n → test m ≡ false)

-- the lesser of two numbers; the other one if one is missing
abbrev pub sooner : Option ℕ → Option ℕ → Option ℕ
sooner None b = b
sooner (Some a) None = Some a
sooner (Some a) (Some b) = Some (min a b)
