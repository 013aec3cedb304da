-- Times as dates in UTC: docs/CONTROL.md, "A page for people".
use Rattle.std.specs.Prelude.{◌++◌, ◌+◌, ◌*◌, ◌/◌, ◌%◌, ◌&&◌, Bool, int_le, int_lt, ℕ, zero, suc, ℤ, pos, negsuc, List, [], ◌∷◌, None, codes, decimal, if◌then◌else◌, nat_le, nat_lt}
use Rattle.std.specs.Fmt.{signed_decimal}
use Rattle.jiff_core.specs.Calendar.{days_in_month}
use Rattle.jiff_fmt.specs.Text.{fraction_part, pad2, pad4}

-- a day of the Gregorian calendar
pub record Day : Type 0 where
  pub year : ℕ
  pub month : ℕ
  pub day : ℕ

-- the day after
abbrev pub next_day : Day → Day
next_day d =
    if nat_lt d.day (days_in_month (pos d.year) d.month) then record d { day = d.day + 1 }
    else (if nat_lt d.month 12 then record { year = d.year; month = d.month + 1; day = 1 } else record { year = d.year + 1; month = 1; day = 1 })

-- the day so many days after the first of January 1970
unfoldable pub day_after : ℕ → Day
day_after zero = record { year = 1970; month = 1; day = 1 }
day_after (suc n) = next_day (day_after n)

-- as `2026-11-26`
abbrev pub day_text : Day → List ℕ
day_text d = pad4 d.year ++ 45 ∷ [] ++ pad2 d.month ++ 45 ∷ [] ++ pad2 d.day

-- so many milliseconds after midnight, as `03:00:00.123`: a fraction has its digits up to the last that is not 0
abbrev pub clock_text : ℕ → List ℕ
clock_text ms = pad2 (ms / 3600000) ++ 58 ∷ pad2 (ms / 60000 % 60) ++ 58 ∷ pad2 (ms / 1000 % 60) ++ fraction_part None (ms % 1000 * 1000000)

-- the instant so many milliseconds after the beginning of 1970, as `2026-11-26T03:00:00.123Z`
unfoldable pub instant_text : ℕ → List ℕ
instant_text ms = (day_text (day_after (ms / 86400000)) ++ 84 ∷ clock_text (ms % 86400000)) ++ codes "Z"

-- the last instant that has a date, 9999-12-30T22:00:00.999Z, in milliseconds
abbrev pub last_dated : ℕ
last_dated = 253402207200999

-- a hyphen for a time that is not known, and the number if no date is so late
abbrev pub date_text : ℤ → List ℕ
date_text (negsuc n) = codes "-"
date_text (pos ms) = if nat_le ms last_dated then instant_text ms else decimal ms

-- a stop that is known is earlier than its start
abbrev pub is_before_start : ℤ → ℤ → Bool
is_before_start start stop = int_le (pos 0) stop && int_lt stop start

-- when it was stopped that began then: of a time before its start the number, and that
abbrev pub stop_text : ℤ → ℤ → List ℕ
stop_text start stop = if is_before_start start stop then signed_decimal stop ++ codes " (before its start)" else date_text stop

-- a time that is known is not negative
abbrev pub is_known : ℤ → Bool
is_known time = int_le (pos 0) time
