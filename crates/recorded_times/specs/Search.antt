-- How far a file is searched by halves, and what stands where in bytes that were read.
use Rattle.std.specs.Prelude.{◌≡◌, ◌⊎◌, ◌+◌, ◌++◌, ℕ, List, [], ◌∷◌, Some, IfSome, length}
use Rattle.recorded_times.specs.declared.reading.FirstLine.{FirstLine}
use Rattle.recorded_times.specs.declared.searching.Span.{Span}
use Rattle.recorded_times.specs.Due.{IsEnded}
use Rattle.recorded_times.specs.Found.{IsAfter, IsAtOrBefore, IsFirstTaken, IsLast}
use Rattle.recorded_times.specs.Times.{HasNoEnd, times_line_of, times_lines_of}

-- the first line of some bytes, and where it stands in them, with its end
pub record IsFirstLine (bytes : List ℕ) (first : FirstLine) : Type 0 where
  pub skipped : List ℕ
  pub text : List ℕ
  pub rest : List ℕ
  pub split : bytes ≡ skipped ++ (text ++ 10 ∷ rest)
  pub start : first.start ≡ length skipped
  pub end : first.end ≡ length skipped + (length text + 1)
  pub ended : IsEnded skipped
  pub none : times_lines_of skipped ≡ []
  pub no_end : HasNoEnd text
  pub line : times_line_of text ≡ Some first.line

-- What is known of a file's bytes: up to `low` the last line is `before`, at or before the time; from `high` on the first one is `after`,
-- later than it. Between them nothing is known.
pub record IsSpan (bytes : List ℕ) (time : ℕ) (span : Span) : Type 0 where
  pub front : List ℕ
  pub middle : List ℕ
  pub back : List ℕ
  pub split : bytes ≡ front ++ (middle ++ back)
  pub low : span.low ≡ length front
  pub high : span.high ≡ length front + length middle
  pub begins : IsEnded front
  pub ends : IsEnded middle ⊎ (back ≡ [])
  pub last : IsLast (times_lines_of front) span.before
  pub first : IsFirstTaken (times_lines_of back) span.after
  pub early : IfSome span.before (IsAtOrBefore time)
  pub late : IfSome span.after (IsAfter time)
