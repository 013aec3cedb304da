-- Control lines: docs/CONTROL.md, "Lines".
use Rattle.std.specs.Prelude.{◌≡◌, ◌==◌, ℕ, nat_lt, nat_le, Bool, true, false, List, [], ◌∷◌, length, Option, Some, None, is_none, Result, Ok, Err, bytes_eq, if◌then◌else◌}
use Rattle.std.specs.List.{position_or_len, before_first, after_first}
use Rattle.std.specs.Str.{is_utf8}
use Rattle.frame_core.specs.declared.refusal.Refusal.{Refusal}
use Rattle.frame_core.specs.declared.refusal.Refusal.TheVariants.{BadLine, NoMemory}
use Rattle.frame_core.specs.Outcome.{◌>>=◌}
use Rattle.control_lines.specs.declared.line.Line.{Line}
use Rattle.control_lines.specs.Table.{Kind, int, long, hex, plain, Value, Fields, none, text, ◌&◌, MakesLine, Row, copies, rows}
use Rattle.control_lines.specs.Numbers.{long_of, int_of, hex_bytes_of, plain_of}

-- a blank is U+0020 alone
abbrev pub has_blank : List ℕ → Bool
has_blank s = nat_lt (position_or_len (λ b. b == 32) s) (length s)

-- the first word of what is left of a line, and what stands behind its blank, if it has one
abbrev pub word_at : Option (List ℕ) → Result (List ℕ × Option (List ℕ)) Refusal
word_at None = Err BadLine
word_at (Some s) =
    if has_blank s then Ok (before_first (λ b. b == 32) s, Some (after_first (λ b. b == 32) s)) else Ok (s, None)

-- a word as the value that it stands for
abbrev pub value_of : (k : Kind) → List ℕ → Result (Value k) Refusal
value_of int word = int_of word
value_of long word = long_of word
value_of hex word = hex_bytes_of word
value_of plain word = plain_of word

-- the first word as that value, and what stands behind it
abbrev pub value_at : (k : Kind) → Option (List ℕ) → Result (Value k × Option (List ℕ)) Refusal
value_at k rest = do
  word ← word_at rest
  value ← value_of k word.0
  Ok (value, word.1)

-- a text is all that is left of a line, at least one byte
abbrev pub text_at : Option (List ℕ) → Result (List ℕ × Option (List ℕ)) Refusal
text_at None = Err BadLine
text_at (Some s) = if length s == 0 then Err BadLine else Ok (s, None)

-- the line of the fields that stand at the front of what is left of it, and what is then left
abbrev pub read : (fields : Fields) → MakesLine fields → Option (List ℕ) → Result (Line × Option (List ℕ)) Refusal
read none line rest = Ok (line, rest)
read text make rest = do
  last ← text_at rest
  Ok (make last.0, last.1)
read (k & fields) make rest = do
  first ← value_at k rest
  read fields (make first.0) first.1

-- what the row of a first word reads
abbrev pub read_by : List Row → List ℕ → Option (List ℕ) → Result (Line × Option (List ℕ)) Refusal
read_by [] word rest = Err BadLine
read_by (row ∷ others) word rest =
    if bytes_eq word row.word then read row.fields row.line rest else read_by others word rest

-- nothing is left of a line
abbrev pub whole : Line × Option (List ℕ) → Result Line Refusal
whole read = if is_none read.1 then Ok read.0 else Err BadLine

-- a first word and its fields
unfoldable pub text_of : List ℕ → Result Line Refusal
text_of s = do
  first ← word_at (Some s)
  read ← read_by rows first.0 first.1
  whole read

-- bytes that are text
unfoldable pub read_of : List ℕ → Result Line Refusal
read_of bytes = if is_utf8 bytes then text_of bytes else Err BadLine

-- a line's bytes, without its end: no more than 262,144
unfoldable pub line_of : List ℕ → Result Line Refusal
line_of bytes = if nat_le (length bytes) 262144 then read_of bytes else Err BadLine

-- ---- which lines take memory

-- what is read, seen by a view, is what is decided; or want of memory, where reading takes memory
abbrev pub Reads : {X Y : Type 0} → Bool → (X → Y) → Result X Refusal → Result Y Refusal → Type 0
Reads takes view (Ok x) decided = decided ≡ Ok (view x)
Reads takes view (Err NoMemory) decided = takes ≡ true
Reads takes view (Err refusal) decided = decided ≡ Err refusal

-- the row of a first word has a field that is copied
abbrev pub copies_by : List Row → List ℕ → Bool
copies_by [] word = false
copies_by (row ∷ others) word = if bytes_eq word row.word then copies row.fields else copies_by others word

-- a first word whose fields are copied
abbrev pub copies_behind : Result (List ℕ × Option (List ℕ)) Refusal → Bool
copies_behind (Ok first) = copies_by rows first.0
copies_behind (Err refusal) = false

-- reading a text takes memory
unfoldable pub text_copies : List ℕ → Bool
text_copies s = copies_behind (word_at (Some s))

-- reading bytes does, if they are text
unfoldable pub read_copies : List ℕ → Bool
read_copies bytes = if is_utf8 bytes then text_copies bytes else false

-- reading a line does, if it is short enough
unfoldable pub line_copies : List ℕ → Bool
line_copies bytes = if nat_le (length bytes) 262144 then read_copies bytes else false
