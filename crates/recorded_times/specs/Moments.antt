-- A time as a word: docs/CONTROL.md, "When a frame was recorded".
use Rattle.std.specs.Prelude.{ℕ, ℤ, pos, negsuc, List, Option, Some, None, Result, Ok, Err, int_div}
use Rattle.jiff.specs.Words.{Error, parse_timestamp}
use Rattle.recorded_times.specs.Times.{number_of}

-- a number that is not negative
abbrev pub natural_of : ℤ → Option ℕ
natural_of (pos n) = Some n
natural_of (negsuc n) = None

-- the whole milliseconds of an instant in nanoseconds, not before 1970
abbrev pub instant_millis : Result ℤ Error → Option ℕ
instant_millis (Ok nanos) = natural_of (int_div nanos (pos 1000000))
instant_millis (Err fault) = None

-- the first of two, if there is one
abbrev pub or_else : Option ℕ → Option ℕ → Option ℕ
or_else (Some n) other = Some n
or_else None other = other

-- milliseconds since the beginning of 1970, or a date by ISO 8601 with its offset
abbrev pub moment_of : List ℕ → Option ℕ
moment_of word = or_else (number_of word) (instant_millis (parse_timestamp word))
