-- The lines of an input: docs/CONTROL.md, "Scripts".
use Rattle.std.specs.Prelude.{◌≡◌, ◌==◌, ℕ, nat_le, List, [], ◌∷◌, length, Option, Some, None, if◌then◌else◌}
use Rattle.std.specs.List.{onto_first}

-- The lines, without their ends. The last may lack its end, and none stands behind the last end.
abbrev pub lines_of : List ℕ → List (List ℕ)
lines_of [] = []
lines_of (b ∷ bytes) = if b == 10 then [] ∷ lines_of bytes else onto_first b (lines_of bytes)

-- a line as it is kept, or none where it is too long
abbrev pub kept : List ℕ → Option (List ℕ)
kept line = if nat_le (length line) 262144 then Some line else None

-- known bytes begin with the line, and lose it with its end
abbrev pub NextLine : Option (List ℕ) → Option (List ℕ) → List ℕ → Type 0
NextLine None new line = Unit {0}
NextLine (Some xs) None line = ⊥
NextLine (Some xs) (Some ys) line = lines_of xs ≡ line ∷ lines_of ys

-- the next line of an input is read, and is this as it is kept
pub record ReadsLine (old new : Option (List ℕ)) (read : Option (List ℕ)) : Type 0 where
  pub line : List ℕ
  pub is_kept : read ≡ kept line
  pub next : NextLine old new line
