-- Gaps that stand, and when that is told: docs/SERVING.md, "What the server prints".
use Rattle.std.specs.Prelude.{◌-◌, ◌/◌, ℕ, ℤ, nat_le, nat_lt, Bool, true, false, Option, None, Some, if◌then◌else◌}
use Rattle.std.specs.Ordering.{int_eq}
use Rattle.server_receiver.specs.declared.standing.StandingGap.{StandingGap}
use Rattle.server_receiver.specs.declared.standing.GapTold.{GapTold}
use Rattle.server_receiver.specs.declared.standing.GapTold.TheVariants.{Filled, Stands}

-- a gap that is seen first now
abbrev pub new_gap : ℤ → ℕ → ℕ → StandingGap
new_gap position naks now = record { position = position; since = now; naks = naks; is_told = false; hours = 0 }

-- it is time to tell it: it has stood for 5 seconds, or for more whole hours than were told
abbrev pub is_telling : ℕ → StandingGap → Bool
is_telling now gap = if gap.is_told then nat_lt gap.hours ((now - gap.since) / 3600000) else nat_le 5000 (now - gap.since)

-- it was told for how many whole hours it stands
abbrev pub told_gap : ℕ → StandingGap → StandingGap
told_gap now gap = record gap { is_told = true; hours = (now - gap.since) / 3600000 }

-- the first gap of an image begins at a position: the one that was known, or another one
abbrev pub gap_kept : ℤ → ℕ → ℕ → Option StandingGap → StandingGap
gap_kept position naks now None = new_gap position naks now
gap_kept position naks now (Some gap) =
    if int_eq gap.position position then (if is_telling now gap then told_gap now gap else gap) else new_gap position naks now

-- the first gap of an image, if it has one, after so many NAKs
abbrev pub gap_followed : Option ℤ → ℕ → ℕ → Option StandingGap → Option StandingGap
gap_followed None naks now known = None
gap_followed (Some position) naks now known = Some (gap_kept position naks now known)

-- a gap that is there no more was filled, which is told if the gap was
abbrev pub filled_told : ℕ → StandingGap → Option GapTold
filled_told now gap = if gap.is_told then Some (Filled gap.position (now - gap.since)) else None

-- that it stands is told if it is time for it: for how many milliseconds, and since how many NAKs
abbrev pub stands_told : ℕ → StandingGap → Option GapTold
stands_told now gap = if is_telling now gap then Some (Stands (now - gap.since) gap.naks) else None

-- what is told of the gap that was known
abbrev pub known_told : Option ℤ → ℕ → StandingGap → Option GapTold
known_told None now gap = filled_told now gap
known_told (Some position) now gap = if int_eq gap.position position then stands_told now gap else filled_told now gap

abbrev pub gap_told : Option ℤ → ℕ → Option StandingGap → Option GapTold
gap_told found now None = None
gap_told found now (Some gap) = known_told found now gap
