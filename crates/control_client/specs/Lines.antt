-- The lines that are sent, and those that come: docs/CONTROL.md, "Lines".
use Rattle.std.specs.Prelude.{◌≡◌, ◌≢◌, ◌≤◌, ◌==◌, ◌++◌, ℕ, Bool, false, List, [], ◌∷◌, codes, length, map, nat_eq, if◌then◌else◌}
use Rattle.std.specs.List.{All, flat_map, starts_with}
use Rattle.std.specs.Borrow.{Bor}

-- the texts that references point to
abbrev pub texts : List (Bor (List ℕ)) → List (List ℕ)
texts = map (λ text. text.now)

-- no line end is among the bytes
abbrev pub HasNoEnd : List ℕ → Type 0
HasNoEnd line = All (λ b. b ≢ 10) line

-- a line with its end
abbrev pub ended : List ℕ → List ℕ
ended line = line ++ 10 ∷ []

-- the text of lines: each with its end
abbrev pub text_of : List (List ℕ) → List ℕ
text_of lines = flat_map ended lines

-- lines that may be sent at once: no end is inside one, and their text has at most 65,536 bytes
pub record AreSendable (lines : List (List ℕ)) : Type 0 where
  pub each : All HasNoEnd lines
  pub within : length (text_of lines) ≤ 65536

-- a line asks for frames, which are no lines
abbrev pub asks_for_frames : List ℕ → Bool
asks_for_frames line = starts_with nat_eq line (codes "follow ")

abbrev pub IsAnsweredByLines : List ℕ → Type 0
IsAnsweredByLines line = asks_for_frames line ≡ false

-- the first line with one more byte in front
abbrev pub longer_first : ℕ → List (List ℕ) → List (List ℕ)
longer_first b [] = []
longer_first b (line ∷ lines) = (b ∷ line) ∷ lines

-- the lines of what came, without their ends; what comes after the last end is no line yet
abbrev pub whole_lines : List ℕ → List (List ℕ)
whole_lines [] = []
whole_lines (b ∷ bytes) = if b == 10 then [] ∷ whole_lines bytes else longer_first b (whole_lines bytes)
