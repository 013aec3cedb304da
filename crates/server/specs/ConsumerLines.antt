-- Which lines a port of consumers answers: docs/SERVING.md, "Consumers".
use Rattle.std.specs.Prelude.{◌≡◌, ◌⊎◌, ◌<◌, ◌++◌, ◌||◌, ◌==◌, length, ℕ, Bool, true, false, List, Option, Some, None, bytes_eq, codes}
use Rattle.std.specs.List.{before_first, position_or_len}

-- the first word of a line: its bytes before the first blank, or all of them
abbrev pub first_word : List ℕ → List ℕ
first_word line = before_first (λ b. b == 32) line

-- the first words of the lines that are answered there
abbrev pub is_consumer_word : List ℕ → Bool
is_consumer_word word =
    bytes_eq word (codes "list") || bytes_eq word (codes "find") || bytes_eq word (codes "positions") || bytes_eq word (codes "source")
    || bytes_eq word (codes "images") || bytes_eq word (codes "follow") || bytes_eq word (codes "quit")

-- a line is answered there; any other is BadLine
abbrev pub is_for_consumers : List ℕ → Bool
is_for_consumers line = is_consumer_word (first_word line)

-- the first word of bytes is known, whatever follows them, or they are too many for one that is answered
abbrev pub IsWordKnown : List ℕ → Type 0
IsWordKnown front = (position_or_len (λ b. b == 32) front < length front) ⊎ (9 < length front)

-- Whether a line that begins with these bytes is answered there. Nothing is said while that depends on what follows.
abbrev pub IsWordDecided : Bool → List ℕ → Option Bool → Type 0
IsWordDecided is_whole front None = is_whole ≡ false
IsWordDecided true front (Some answered) = is_for_consumers front ≡ answered
IsWordDecided false front (Some answered) = (rest : List ℕ) → is_for_consumers (front ++ rest) ≡ answered
