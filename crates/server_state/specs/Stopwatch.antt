-- The time since a thread began: docs/ARCHITECTURE.md, "Serving".
use Rattle.std.specs.Prelude.{◌&&◌, ◌-◌, ◌/◌, ◌^◌, ℕ, nat_le, nat_lt, if◌then◌else◌, Option, None, Some}
use Rattle.std.specs.Time.{instant_nanos}
use Rattle.std.specs.declared.time.Instant.{Instant}

-- whole milliseconds from one number of nanoseconds to another: none if that is less, or they are no `u64`
abbrev pub whole_millis : ℕ → ℕ → Option ℕ
whole_millis from to =
    if nat_le from to && nat_lt ((to - from) / 1000000) (2 ^ 64) then Some ((to - from) / 1000000) else None

-- whole milliseconds from one moment to another: none if either is not known
abbrev pub millis_between : Option Instant → Option Instant → Option ℕ
millis_between (Some start) (Some now) = whole_millis (instant_nanos start) (instant_nanos now)
millis_between start now = None

-- the same in microseconds
abbrev pub whole_micros : ℕ → ℕ → Option ℕ
whole_micros from to =
    if nat_le from to && nat_lt ((to - from) / 1000) (2 ^ 64) then Some ((to - from) / 1000) else None

abbrev pub micros_between : Option Instant → Option Instant → Option ℕ
micros_between (Some start) (Some now) = whole_micros (instant_nanos start) (instant_nanos now)
micros_between start now = None
