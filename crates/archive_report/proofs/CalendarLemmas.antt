-- The day so many days after the first of January 1970 is the one that jiff's calendar counts.
use Rattle.std.proofs.Common.{◌≡◌, ℕ, zero, suc, ◌+◌, ◌*◌, ◌/◌, ◌%◌, ◌<◌, ◌≤◌, ℤ, pos, negsuc, ◌*ℤ◌, ◌≤ℤ◌, Bool, true, false, ◌++◌, codes, nat_lt, nat_le, refl, arith}
use Rattle.std.specs.Prelude.{if◌then◌else◌}
use Rattle.std.proofs.lemmas.Bool.Decides.{nat_tests}
use Rattle.jiff_core.specs.Calendar.{IsYear, day_count, days_in_month}
use Rattle.jiff_core.specs.Date.{epoch_day}
use Rattle.jiff_core.specs.DateTime.{civil_nanos}
use Rattle.jiff_core.specs.Time.{time_nanos}
use Rattle.jiff_core.specs.Timestamp.{IsTimestampNanos}
use Rattle.jiff_core.specs.declared.civil.date.Date.{Date}
use Rattle.jiff_core.specs.declared.civil.datetime.DateTime.{DateTime}
use Rattle.jiff_core.specs.declared.civil.time.Time.{Time}
use Rattle.jiff.specs.Names.{iso_datetime_text}
use Rattle.jiff_core.proofs.SignedLemmas.{signed_arith}
use Rattle.jiff_core.proofs.CalendarLemmas.{day_count-day, day_count-epoch, day_count-last_of_year, day_count-next_month, day_count-next_year, days_from_civil-day_count, days_in_month_bounds, day_count-end}
use Rattle.jiff_core.proofs.DateLemmas.{epoch_day_injective}
use Rattle.jiff_core.proofs.DateTimeLemmas.{civil_nanos-parts, time_nanos_bound}
use Rattle.archive_report.specs.Dates.{Day, date_text, day_after, instant_text, next_day}

year_in : (y : ℕ) → y ≤ 9999 → IsYear (pos y)
year_in y h = (omega (arith, signed_arith), omega (arith, signed_arith))

-- a day of the calendar, so many days after the first of January 1970
pub record Follows (n : ℕ) (d : Day) : Type 0 where
  pub year : d.year ≤ 9999
  pub month : (1 ≤ d.month) × (d.month ≤ 12)
  pub day : (1 ≤ d.day) × (d.day ≤ days_in_month (pos d.year) d.month)
  pub count : day_count (pos d.year) d.month d.day ≡ 4_371_953 + n

-- within a month
next_in_month : (n : ℕ) (d : Day) → Follows n d → d.day < days_in_month (pos d.year) d.month → Follows (suc n) (record d { day = d.day + 1 })
next_in_month n d f more = record {
  year = f.year;
  month = f.month;
  day = (omega arith, omega arith);
  count = omega (arith, f.count, day_count-day (pos d.year) d.month d.day (d.day + 1) f.day.0 (omega arith));
}

-- to the next month
next_month : (n : ℕ) (d : Day) → Follows n d → days_in_month (pos d.year) d.month ≤ d.day → d.month < 12 → Follows (suc n) (record { year = d.year; month = d.month + 1; day = 1 })
next_month n d f last more = record {
  year = f.year;
  month = (omega arith, omega arith);
  day = (omega arith, omega (arith, days_in_month_bounds (pos d.year) (d.month + 1)));
  count = omega (arith, f.count, f.day.1, day_count-day (pos d.year) d.month d.day 1 f.day.0 (omega arith), day_count-next_month (pos d.year) d.month f.month.0);
}

-- 31 December of 9999 is the last day
before_last : (n y : ℕ) → n < 2_932_896 → y ≤ 9999 → day_count (pos (y + 1)) 1 1 ≡ 4_371_953 + suc n → y + 1 ≤ 9999
before_last n y few h count = by (nat_lt y 9999) refl
  where
    by : (t : Bool) → nat_lt y 9999 ≡ t → y + 1 ≤ 9999
    by true e = grind (arith, nat_tests)
    by false e =
        let last : y ≡ 9999 = grind (arith, nat_tests) in
        absurd (omega (arith, rw last at count, day_count-end))

-- to the next year
next_year : (n : ℕ) (d : Day) → n < 2_932_896 → Follows n d → days_in_month (pos d.year) d.month ≤ d.day → 12 ≤ d.month → Follows (suc n) (record { year = d.year + 1; month = 1; day = 1 })
next_year n d few f last end =
    let december : d.month ≡ 12 = omega (arith, f.month.1) in
    let is : d.day ≡ 31 = omega (arith, rw december at last, rw december at f.day.1) in
    let count : day_count (pos d.year) 12 31 ≡ 4_371_953 + n = rw (december, is) at f.count in
    let first : day_count (pos (d.year + 1)) 1 1 ≡ 4_371_953 + suc n =
    omega (arith, count, day_count-last_of_year (pos d.year), day_count-next_year (pos d.year) (pos (d.year + 1)) (omega (arith, signed_arith)) (omega (arith, signed_arith))) in
    record {
      year = before_last n d.year few f.year first;
      month = (omega arith, omega arith);
      day = (omega arith, omega (arith, days_in_month_bounds (pos (d.year + 1)) 1));
      count = first;
    }

-- to the day after
next : (n : ℕ) (d : Day) → n < 2_932_896 → Follows n d → Follows (suc n) (next_day d)
next n d few f = by (nat_lt d.day (days_in_month (pos d.year) d.month)) (nat_lt d.month 12) refl refl
  where
    by : (within more : Bool) → nat_lt d.day (days_in_month (pos d.year) d.month) ≡ within → nat_lt d.month 12 ≡ more
        → Follows (suc n) (if within then record d { day = d.day + 1 } else (if more then record { year = d.year; month = d.month + 1; day = 1 } else record { year = d.year + 1; month = 1; day = 1 }))
    by true more e m = next_in_month n d f (grind (arith, nat_tests))
    by false true e m = next_month n d f (grind (arith, nat_tests)) (grind (arith, nat_tests))
    by false false e m = next_year n d few f (grind (arith, nat_tests)) (grind (arith, nat_tests))

follows : (n : ℕ) → n ≤ 2_932_896 → Follows n (day_after n)
unfolding day_after
follows zero few = record { year = omega arith; month = (omega arith, omega arith); day = (omega arith, omega (arith, days_in_month_bounds (pos 1970) 1)); count = omega (arith, day_count-epoch) }
follows (suc n) few = next n (day_after n) (omega arith) (follows n (omega arith))

-- jiff's date of a day number is that day
pub day_is : (a : Date) (n : ℕ) → n ≤ 2_932_896 → epoch_day a ≡ pos n → (a.year ≡ pos (day_after n).year) × (a.month ≡ (day_after n).month) × (a.day ≡ (day_after n).day)
day_is a n few is =
    let f = follows n few in
    let d = day_after n in
    let b : Date = record { year = pos d.year; month = d.month; day = d.day; year_in = year_in d.year f.year; month_in = f.month; day_in = f.day } in
    let same : epoch_day a ≡ epoch_day b = omega (arith, signed_arith, is, f.count, days_from_civil-day_count (pos d.year) d.month d.day) in
    epoch_day_injective a b same

-- what a clock shows so many milliseconds after midnight
clock_is : (t : Time) (ms : ℕ) → time_nanos t ≡ ms * 1_000_000
    → (t.hour ≡ ms / 3600000) × (t.minute ≡ ms / 60000 % 60) × (t.second ≡ ms / 1000 % 60) × (t.subsec_nanosecond ≡ ms % 1000 * 1000000)
clock_is t ms is = (omega arith, omega arith, omega arith, omega arith)

-- jiff's text of an instant is its text
pub instant_is : (dt : DateTime) (ms : ℕ) → ms ≤ 253_402_207_200_999 → civil_nanos dt ≡ pos ms *ℤ pos 1_000_000 → instant_text ms ≡ iso_datetime_text dt ++ codes "Z"
unfolding instant_text
instant_is dt ms dated is =
    let n = ms / 86400000 in
    let number : epoch_day dt.date ≡ pos n = omega (arith, signed_arith, is, civil_nanos-parts dt, time_nanos_bound dt.time) in
    let rest : time_nanos dt.time ≡ ms % 86400000 * 1_000_000 = omega (arith, signed_arith, is, civil_nanos-parts dt, time_nanos_bound dt.time) in
    let day = day_is dt.date n (omega arith) number in
    let clock = clock_is dt.time (ms % 86400000) rest in
    rw (day.0, day.1, day.2, clock.0, clock.1, clock.2, clock.3)

-- a known time that has a date
pub date_is : (dt : DateTime) (time : ℤ) → pos 0 ≤ℤ time → IsTimestampNanos (time *ℤ pos 1_000_000) → civil_nanos dt ≡ time *ℤ pos 1_000_000 → date_text time ≡ iso_datetime_text dt ++ codes "Z"
date_is dt (pos ms) known (low, high) is =
    let dated : ms ≤ 253_402_207_200_999 = omega (arith, signed_arith, high) in
    let tested : nat_le ms 253_402_207_200_999 ≡ true = grind (arith, nat_tests) in
    rw tested (instant_is dt ms dated is)
date_is dt (negsuc n) known range is = absurd (omega (arith, signed_arith, known))
