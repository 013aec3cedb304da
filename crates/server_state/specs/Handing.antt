-- Blocks on their way from the thread that receives to the one that records: docs/ARCHITECTURE.md, "Serving".
use Rattle.std.specs.Prelude.{◌&&◌, ◌||◌, ◌==◌, ℕ, Bool, nat_lt, not}

-- A block may be put if fewer than 64 wait, and blocks are awaited, or it is full.
abbrev pub may_put : Bool → ℕ → Bool → Bool
may_put is_awaited waiting is_full = nat_lt waiting 64 && (is_full || is_awaited)

-- The recording thread has nothing to do if no block waits, no settling is asked for, and blocks may come.
abbrev pub is_idle : ℕ → Bool → Bool → Bool
is_idle waiting is_asked is_ended = waiting == 0 && not is_asked && not is_ended

-- No block waits, and none comes any more.
abbrev pub is_handed_over : ℕ → Bool → Bool
is_handed_over waiting is_ended = waiting == 0 && is_ended
