-- What is found in the lines of a file at a time: docs/CONTROL.md, "When a frame was recorded".
use Rattle.std.specs.Prelude.{◌≡◌, ◌<◌, ◌≤◌, ◌++◌, ℕ, List, [], ◌∷◌, Option, Some, None, IfSome, option_map, codes}
use Rattle.std.specs.List.{All}
use Rattle.std.specs.Fmt.{decimal}
use Rattle.recorded_times.specs.declared.line.TimesLine.{TimesLine}
use Rattle.recorded_times.specs.declared.found.Found.{Found}

-- the first of some lines, if there is any
abbrev pub IsFirstTaken : List TimesLine → Option TimesLine → Type 0
IsFirstTaken lines None = lines ≡ []
IsFirstTaken lines (Some line) = (later : List TimesLine) × (lines ≡ line ∷ later)

-- the last of them
abbrev pub IsLast : List TimesLine → Option TimesLine → Type 0
IsLast lines None = lines ≡ []
IsLast lines (Some line) = (earlier : List TimesLine) × (lines ≡ earlier ++ line ∷ [])

-- a line is at or before a time, or after it
abbrev pub IsAtOrBefore : ℕ → TimesLine → Type 0
IsAtOrBefore time line = line.millis ≤ time

abbrev pub IsAfter : ℕ → TimesLine → Type 0
IsAfter time line = time < line.millis

-- a line and the one after it, if there is one
abbrev pub found_with : TimesLine → Option TimesLine → Found
found_with line next = record { position = line.position; from = line.millis; to = option_map (λ after. after.millis) next }

-- a line at or before a time, after which the next line is later than that time, or there is none
pub record IsFoundIn (time : ℕ) (lines : List TimesLine) (found : Found) : Type 0 where
  pub earlier : List TimesLine
  pub line : TimesLine
  pub later : List TimesLine
  pub next : Option TimesLine
  pub split : lines ≡ earlier ++ line ∷ later
  pub first : IsFirstTaken later next
  pub found_is : found ≡ found_with line next
  pub early : IsAtOrBefore time line
  pub late : IfSome next (IsAfter time)

-- what is found at a time; nothing, if the first line is later
abbrev pub IsFoundAt : ℕ → List TimesLine → Option Found → Type 0
IsFoundAt time lines None = (next : Option TimesLine) × IsFirstTaken lines next × IfSome next (IsAfter time)
IsFoundAt time lines (Some found) = IsFoundIn time lines found

-- each line's time is at least that of each line before it, as the server writes them
abbrev pub IsOrdered : List TimesLine → Type 0
IsOrdered [] = Unit {0}
IsOrdered (line ∷ later) = All (λ other. line.millis ≤ other.millis) later × IsOrdered later

-- the last line at or before a time, and when the next one is
pub record IsLastAtOrBefore (time : ℕ) (lines : List TimesLine) (found : Found) : Type 0 where
  pub earlier : List TimesLine
  pub line : TimesLine
  pub later : List TimesLine
  pub next : Option TimesLine
  pub split : lines ≡ earlier ++ line ∷ later
  pub first : IsFirstTaken later next
  pub found_is : found ≡ found_with line next
  pub early : All (IsAtOrBefore time) (earlier ++ line ∷ [])
  pub late : All (IsAfter time) later

-- when the next line is, or -1
abbrev pub to_text : Option ℕ → List ℕ
to_text None = codes "-1"
to_text (Some millis) = decimal millis

-- what is printed of it
abbrev pub found_text : Found → List ℕ
found_text found = codes "position " ++ (decimal found.position ++ (codes " from " ++ (decimal found.from ++ (codes " to " ++ to_text found.to))))
