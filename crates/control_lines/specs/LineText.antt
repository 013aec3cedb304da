-- Which texts control lines have: docs/CONTROL.md, "Lines".
use Rattle.std.specs.Prelude.{◌≡◌, ◌≢◌, ◌<◌, ◌≤◌, ◌++◌, [], ◌∷◌, ℕ, true, List, length, map, IsUtf8, Contains}
use Rattle.std.specs.Fmt.{signed_decimal}
use Rattle.std.specs.List.{All}
use Rattle.std.specs.Char.{to_ascii_lowercase}
use Rattle.hex.specs.Hex.{encode_lower, IsBytes}
use Rattle.control_lines.specs.declared.line.Line.{Line}
use Rattle.control_lines.specs.Numbers.{fits}
use Rattle.control_lines.specs.Table.{Kind, int, long, hex, plain, Value, Fields, none, text, ◌&◌, MakesLine, Row, rows}

-- a value for each field
abbrev pub Values : Fields → Type 0
Values none = Unit {0}
Values text = List ℕ
Values (k & fields) = Value k × Values fields

-- the line of these values
abbrev pub line_with : (fields : Fields) → MakesLine fields → Values fields → Line
line_with none line values = line
line_with text make values = make values
line_with (k & fields) make values = line_with fields (make values.0) values.1

-- the values that a word may stand for
abbrev pub IsFit : (k : Kind) → Value k → Type 0
IsFit int z = fits 31 z ≡ true
IsFit long z = fits 63 z ≡ true
IsFit hex bytes = (0 < length bytes) × IsBytes bytes
IsFit plain bytes = (0 < length bytes) × All (λ b. b ≢ 32) bytes

abbrev pub AreFit : (fields : Fields) → Values fields → Type 0
AreFit none values = Unit {0}
AreFit text values = 0 < length values
AreFit (k & fields) values = IsFit k values.0 × AreFit fields values.1

-- a value's one word
abbrev pub word_of : (k : Kind) → Value k → List ℕ
word_of int z = signed_decimal z
word_of long z = signed_decimal z
word_of hex bytes = encode_lower bytes
word_of plain bytes = bytes

-- the one text of fields, each behind a blank
abbrev pub text_with : (fields : Fields) → Values fields → List ℕ
text_with none values = []
text_with text values = 32 ∷ values
text_with (k & fields) values = 32 ∷ (word_of k values.0 ++ text_with fields values.1)

-- a value's word, with hexadecimal digits in either case
abbrev pub IsWordOf : (k : Kind) → Value k → List ℕ → Type 0
IsWordOf int z word = word ≡ signed_decimal z
IsWordOf long z word = word ≡ signed_decimal z
IsWordOf hex bytes word = map to_ascii_lowercase word ≡ encode_lower bytes
IsWordOf plain bytes word = word ≡ bytes

abbrev pub AreSpelled : (fields : Fields) → Values fields → List ℕ → Type 0
AreSpelled none values s = s ≡ []
AreSpelled text values s = s ≡ 32 ∷ values
AreSpelled (k & fields) values s =
    (word rest : List ℕ) × (s ≡ 32 ∷ (word ++ rest)) × IsWordOf k values.0 word × AreSpelled fields values.1 rest

-- text that is short enough for a line
abbrev pub IsShortText : List ℕ → Type 0
IsShortText s = IsUtf8 s × (length s ≤ 262144)

-- a row, and values of its fields, which give the line and the text
pub record IsSpelling (line : Line) (s : List ℕ) : Type 0 where
  pub row : Row
  pub listed : Contains rows row
  pub values : Values row.fields
  pub fit : AreFit row.fields values
  pub made : line ≡ line_with row.fields row.line values
  pub rest : List ℕ
  pub split : s ≡ row.word ++ rest
  pub spelled : AreSpelled row.fields values rest
  pub short : IsShortText s
