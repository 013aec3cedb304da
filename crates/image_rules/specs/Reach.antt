-- Gaps that are further back than their sender repeats: docs/PROTOCOL.md, "Where an image joins".
use Rattle.std.specs.Prelude.{◌+◌, ◌-◌, ◌/◌, ◌==◌, ◌||◌, ℕ, nat_le, nat_lt, min, not, unsigned_abs, Bool, true, false, Option, None, Some, if◌then◌else◌}
use Rattle.frame_core.specs.declared.geometry.Geometry.{Geometry}
use Rattle.image_rules.specs.declared.reach.GapLook.{GapLook}
use Rattle.image_rules.specs.declared.reach.OutOfReach.{OutOfReach}
use Rattle.image_rules.specs.declared.reach.UnreachableGap.{UnreachableGap}

-- how far back a sender repeats, in bytes: half a term and the longest message, which is an eighth of a term and at most 16 MiB
abbrev pub repeat_reach : Geometry → ℕ
repeat_reach g = unsigned_abs g.term_length / 2 + min (unsigned_abs g.term_length / 8) 16777216

-- a gap is further before the newest frame than the sender repeats
abbrev pub is_out_of_reach : ℕ → GapLook → Bool
is_out_of_reach position look = nat_lt look.reach (look.newest - position)

-- the sender named a position from which it could still repeat what is missing
abbrev pub is_reached_from : ℕ → ℕ → Option ℕ → Bool
is_reached_from position reach None = false
is_reached_from position reach (Some named) = nat_le (named - position) reach

abbrev pub is_reached : ℕ → GapLook → Bool
is_reached position look = is_reached_from position look.reach look.named

-- the time begins anew: the gap can still be filled, or nothing of the publication came for 1,000 milliseconds
abbrev pub restarts_wait : ℕ → GapLook → Bool
restarts_wait position look = not (is_out_of_reach position look) || is_reached position look || nat_le 1000 (look.time - look.heard)

-- a gap at a position that is out of reach now: the one that was known, or another one
abbrev pub gap_at : ℕ → ℕ → Option OutOfReach → OutOfReach
gap_at position time None = record { position = position; since = time }
gap_at position time (Some gap) = if gap.position == position then gap else record { position = position; since = time }

-- the first gap, if it is asked for and out of reach
abbrev pub gap_of : Option ℕ → GapLook → Option OutOfReach → Option OutOfReach
gap_of None look known = None
gap_of (Some position) look known = if restarts_wait position look then None else Some (gap_at position look.time known)

abbrev pub gap_after : GapLook → Option OutOfReach → Option OutOfReach
gap_after look known = gap_of look.gap look known

abbrev pub after_look : GapLook → UnreachableGap → UnreachableGap
after_look look u = record { gap = gap_after look u.gap }

-- a gap has been out of reach for 5,000 milliseconds
abbrev pub has_waited : ℕ → Option OutOfReach → Bool
has_waited time None = false
has_waited time (Some gap) = nat_le 5000 (time - gap.since)

-- the first gap is given up
abbrev pub is_out_of_patience : GapLook → UnreachableGap → Bool
is_out_of_patience look u = has_waited look.time (gap_after look u.gap)
