-- Where a replay ends and when it is done: Aeron Archive documentation, "Replay"; docs/CONTROL.md, "Replays".
use Rattle.std.specs.Prelude.{◌&&◌, ◌||◌, ◌+ℤ◌, ℤ, pos, negsuc, Bool, not, int_le, if◌then◌else◌}
use Rattle.std.specs.Int.{int_min}
use Rattle.std.specs.Ordering.{int_eq}

-- where a replay has no end
abbrev pub no_bound : ℤ
no_bound = pos 9223372036854775807

-- where a replay ends that begins at a position, with a length in bytes of the stream; -1 means that it has no end
abbrev pub bound_of : ℤ → ℤ → ℤ
bound_of position size = if int_eq size (negsuc 0) then no_bound else int_min (position +ℤ size) no_bound

-- at its bound, or at the recorded position of a recording that isn't active
abbrev pub is_done : ℤ → ℤ → ℤ → Bool → Bool
is_done bound next recorded active = int_le bound next || (not active && int_eq next recorded)
