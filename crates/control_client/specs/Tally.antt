-- What is kept of replies while they come.
use Rattle.std.specs.Prelude.{◌≡◌, ◌++◌, ℕ, suc, Bool, false, List, [], ◌∷◌, length, max, take, Option, Some, None, option_map}
use Rattle.std.specs.List.{All, list_any}
use Rattle.std.specs.Io.KnownBytes.{Appends, Consumes, IsAtEnd}
use Rattle.control_client.specs.declared.fault.AskFault.{AskFault}
use Rattle.control_client.specs.declared.fault.AskFault.TheVariants.{Output}
use Rattle.control_client.specs.declared.tally.Tally.{Tally}
use Rattle.control_client.specs.Lines.{HasNoEnd, text_of, texts}
use Rattle.control_client.specs.Replies.{is_awaited, is_refusal, unanswered}

-- bytes are lines with their ends, and then a rest without an end
pub record Splits (bytes : List ℕ) (lines : List (List ℕ)) (rest : List ℕ) : Type 0 where
  pub whole : bytes ≡ text_of lines ++ rest
  pub each : All HasNoEnd lines
  pub last : HasNoEnd rest

-- One byte more of a line shows what it is, and whether it is the awaited one. Of `recording ` the last byte is the tenth.
abbrev pub telling_length : Option (List ℕ) → ℕ
telling_length None = 9
telling_length (Some until) = max 9 (length until)

-- what is kept of a line: its front
abbrev pub front_of : Option (List ℕ) → List ℕ → List ℕ
front_of until line = take (suc (telling_length until)) line

-- what is kept after these lines, and a rest of the next one
pub record IsTallyOf (asked : List (List ℕ)) (until : Option (List ℕ)) (lines : List (List ℕ)) (rest : List ℕ) (tally : Tally) : Type 0 where
  pub awaits : option_map (λ text. text.now) tally.until ≡ until
  pub left : texts tally.left.now ≡ unanswered asked lines
  pub refused : tally.is_refused ≡ list_any is_refusal lines
  pub awaited : tally.is_awaited ≡ is_awaited until lines
  pub front : tally.front.items ≡ front_of until rest

-- what is kept after these bytes
pub record IsTally (asked : List (List ℕ)) (until : Option (List ℕ)) (bytes : List ℕ) (tally : Tally) : Type 0 where
  pub lines : List (List ℕ)
  pub rest : List ℕ
  pub splits : Splits bytes lines rest
  pub holds : IsTallyOf asked until lines rest tally

-- one byte more of a line came, which does not end it
abbrev pub Grows : Tally → ℕ → Tally → Type 0
Grows old byte new = (asked : List (List ℕ)) (until : Option (List ℕ)) (lines : List (List ℕ)) (rest : List ℕ) →
    IsTallyOf asked until lines rest old → IsTallyOf asked until lines (rest ++ byte ∷ []) new

-- the end of a line came
abbrev pub EndsLine : Tally → Tally → Type 0
EndsLine old new = (asked : List (List ℕ)) (until : Option (List ℕ)) (lines : List (List ℕ)) (rest : List ℕ) →
    IsTallyOf asked until lines rest old → IsTallyOf asked until (lines ++ rest ∷ []) [] new

-- further bytes came
abbrev pub Follows : Tally → List ℕ → Tally → Type 0
Follows old bytes new = (asked : List (List ℕ)) (until : Option (List ℕ)) (before : List ℕ) → IsTally asked until before old → IsTally asked until (before ++ bytes) new

-- what one read gave went from a reader to a writer, and was kept; the reader is at its end if no more may come
pub record MovesPiece (left more contents written : Option (List ℕ)) (old new : Tally) (is_more : Bool) : Type 0 where
  pub bytes : List ℕ
  pub consumed : Consumes left more bytes
  pub printed : Appends contents written bytes
  pub follows : Follows old bytes new
  pub at_end : is_more ≡ false → IsAtEnd more

-- what it gave was printed, and a fault came; nothing is said of a writer that failed
abbrev pub StopsAt : Option (List ℕ) → Option (List ℕ) → Option (List ℕ) → Option (List ℕ) → AskFault → Type 0
StopsAt left more contents written Output = Unit {0}
StopsAt left more contents written fault = (bytes : List ℕ) × Consumes left more bytes × Appends contents written bytes
