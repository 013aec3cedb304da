-- Which line is due of a recording, and what is added to a file for it: docs/SERVING.md, "When a frame was recorded".
use Rattle.std.specs.Prelude.{◌≡◌, ◌+◌, ◌&&◌, ◌||◌, ◌⊎◌, ◌++◌, ℕ, Bool, true, false, List, [], ◌∷◌, Option, Some, None, max, nat_eq, nat_le, nat_lt, if◌then◌else◌}
use Rattle.recorded_times.specs.declared.line.TimesLine.{TimesLine}
use Rattle.recorded_times.specs.Times.{line_text}

-- less than this many milliseconds have passed since a line
abbrev pub is_early : TimesLine → ℕ → ℕ → Bool
is_early last now every = nat_le last.millis now && nat_lt now (last.millis + every)

-- The line that is due by the last one: of a recording that moved since, and not too early. Its time is the clock's, or that of the
-- last line if the clock went back.
abbrev pub due_line : Option TimesLine → ℕ → ℕ → ℕ → Option TimesLine
due_line None position now every = Some (record { millis = now; position = position })
due_line (Some last) position now every =
    if nat_eq position last.position || is_early last now every then None
    else Some (record { millis = max last.millis now; position = position })

-- what a run, and whatever was torn before, is parted by: no line ends so
abbrev pub mark : List ℕ
mark = 45 ∷ 10 ∷ []

-- it comes before the first line after a beginning or a failed write
abbrev pub mark_of : Bool → List ℕ
mark_of true = []
mark_of false = mark

-- what is added to a file for a line
abbrev pub added_text : Bool → TimesLine → List ℕ
added_text is_begun line = mark_of is_begun ++ (line_text line ++ 10 ∷ [])

-- bytes are nothing, or end with a line end
abbrev pub IsEnded : List ℕ → Type 0
IsEnded bytes = (bytes ≡ []) ⊎ ((front : List ℕ) × (bytes ≡ front ++ 10 ∷ []))
