-- A file of times, by its bytes: docs/SERVING.md, "When a frame was recorded".
use Rattle.std.specs.Prelude.{◌^◌, ◌==◌, ◌&&◌, ◌++◌, ◌≢◌, ℕ, Bool, List, [], ◌∷◌, Option, Some, None, nat_lt, bytes_eq, if◌then◌else◌}
use Rattle.std.specs.List.{All, before_first, after_first, filter_map}
use Rattle.std.specs.Fmt.{decimal}
use Rattle.std.specs.Str.Parse.{digits_value}
use Rattle.recorded_times.specs.declared.line.TimesLine.{TimesLine}

-- the text of a line, without its end: milliseconds since the beginning of 1970, a blank, and the recorded position in bytes
abbrev pub line_text : TimesLine → List ℕ
line_text line = decimal line.millis ++ 32 ∷ decimal line.position

-- the number below 2^64 whose decimal text a word is
unfoldable pub number_of : List ℕ → Option ℕ
number_of word =
    let n = digits_value 10 word in
    if bytes_eq (decimal n) word && nat_lt n (2 ^ 64) then Some n else None

abbrev pub is_space : ℕ → Bool
is_space b = b == 32

-- the line of two numbers, if both are there
abbrev pub times_line_with : Option ℕ → Option ℕ → Option TimesLine
times_line_with None position = None
times_line_with (Some millis) None = None
times_line_with (Some millis) (Some position) = Some (record { millis = millis; position = position })

-- the line that a text is: two numbers with a blank between them; any other text is no line, as one that was torn
abbrev pub times_line_of : List ℕ → Option TimesLine
times_line_of text = times_line_with (number_of (before_first is_space text)) (number_of (after_first is_space text))

-- no line end is among the bytes
abbrev pub HasNoEnd : List ℕ → Type 0
HasNoEnd text = All (λ b. b ≢ 10) text

-- the first text with one more byte in front
abbrev pub with_longer_first : ℕ → List (List ℕ) → List (List ℕ)
with_longer_first b [] = []
with_longer_first b (text ∷ texts) = (b ∷ text) ∷ texts

-- the texts of a file, each without its end; what comes after the last end is none yet
abbrev pub whole_texts : List ℕ → List (List ℕ)
whole_texts [] = []
whole_texts (b ∷ bytes) = if b == 10 then [] ∷ whole_texts bytes else with_longer_first b (whole_texts bytes)

-- the lines of a file
abbrev pub times_lines_of : List ℕ → List TimesLine
times_lines_of bytes = filter_map times_line_of (whole_texts bytes)
