-- What is answered of a time: docs/CONTROL.md, "When a frame was recorded".
use Rattle.std.specs.Prelude.{◌≡◌, ◌++◌, ℕ, Bool, List, Option, Some, None, IfSome, is_some, codes}
use Rattle.std.specs.Fmt.{decimal}
use Rattle.std.specs.Io.KnownBytes.{Appends}
use Rattle.recorded_times.specs.declared.answering.AnswerFault.{AnswerFault}
use Rattle.recorded_times.specs.declared.answering.AnswerFault.TheVariants.{Search, Output}
use Rattle.recorded_times.specs.declared.found.Found.{Found}
use Rattle.recorded_times.specs.Found.{IsFoundAt, found_text}
use Rattle.recorded_times.specs.Times.{times_lines_of}

-- the line that is printed
abbrev pub answer_text : ℕ → Option Found → List ℕ
answer_text time None = codes "none before " ++ (decimal time ++ codes "\n")
answer_text time (Some found) = found_text found ++ codes "\n"

-- what a file with these bytes, if they are known, has at the time was printed; and whether that is a position
pub record HasAnsweredWhen (bytes : Option (List ℕ)) (time : ℕ) (contents written : Option (List ℕ)) (stood : Bool) : Type 0 where
  pub found : Option Found
  pub is_found : IfSome bytes (λ known. IsFoundAt time (times_lines_of known) found)
  pub printed : Appends contents written (answer_text time found)
  pub tells : stood ≡ is_some found

-- nothing was printed; nothing is said of a writer that failed
abbrev pub FailsToAnswerWhen : Option (List ℕ) → Option (List ℕ) → AnswerFault → Type 0
FailsToAnswerWhen contents written (Search fault) = written ≡ contents
FailsToAnswerWhen contents written (Output error) = Unit {0}
