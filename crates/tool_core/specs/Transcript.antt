-- What a script's replies are to its lines: docs/CONTROL.md, "Scripts".
use Rattle.std.specs.Prelude.{take, drop, ◌≡◌, ◌⊎◌, ℕ, Bool, List, [], ◌∷◌, ◌++◌, Option, IfSome, if◌then◌else◌}
use Rattle.std.specs.Io.KnownBytes.{Appends}
use Rattle.tool_core.specs.InputLines.{lines_of, kept}

-- The lines up to the first that quits, and that one.
abbrev pub until_quit : (Option (List ℕ) → Bool) → List (List ℕ) → List (List ℕ)
until_quit quits [] = []
until_quit quits (line ∷ lines) = line ∷ (if quits (kept line) then [] else until_quit quits lines)

module _ {S : Type 0} (Answers : S → Option (List ℕ) → List ℕ → S → Type 0) where
  -- The text has the answer to each line in turn, the first from the old state and each further one from the state
  -- that the one before it left.
  abbrev pub Transcript : S → List (List ℕ) → List ℕ → S → Type 0
  Transcript old [] text new = (text ≡ []) × (new ≡ old)
  Transcript old (line ∷ lines) text new =
      (reply : List ℕ) × (mid : S) × (rest : List ℕ) × Answers old (kept line) reply mid × (text ≡ reply ++ rest) × Transcript mid lines rest new

module _ {S : Type 0} (start : S) (Left : S → Type 0) (quits : Option (List ℕ) → Bool) (Answers : S → Option (List ℕ) → List ℕ → S → Type 0) where
  -- the text answers the lines up to the one that quits, and the state after them is left
  abbrev pub AnswersAll : List (List ℕ) → List ℕ → Type 0
  AnswersAll lines text = (state : S) × Transcript Answers start (until_quit quits lines) text state × Left state

  -- a state is left, or the one after the next line, of whose answer nothing was written
  abbrev pub LeftNear : S → List (List ℕ) → Type 0
  LeftNear state [] = Left state
  LeftNear state (line ∷ lines) = Left state ⊎ ((reply : List ℕ) × (next : S) × Answers state (kept line) reply next × Left next)

  -- the text answers the first of these lines, and the state after them is left, or the one after the next line
  abbrev pub AnswersSome : List (List ℕ) → List ℕ → Type 0
  AnswersSome lines text = (n : ℕ) × (state : S) × Transcript Answers start (take n (until_quit quits lines)) text state × LeftNear state (drop n (until_quit quits lines))

-- The writer gained a text that is right for the lines of the input, where that is known.
pub record WritesText (input contents written : Option (List ℕ)) (IsRight : List (List ℕ) → List ℕ → Type 0) : Type 0 where
  pub text : List ℕ
  pub appended : Appends contents written text
  pub right : IfSome input (λ bytes. IsRight (lines_of bytes) text)
