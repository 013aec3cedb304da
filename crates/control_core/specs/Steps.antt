-- What calls make of the plain book of an archive, step by step. docs/CONTROL.md, "Control state"; docs/STORAGE.md, "Recovery".
use Rattle.std.specs.Prelude.{List, [], ◌∷◌}
use Rattle.archive_model.specs.declared.command.Command.{Command}
use Rattle.archive_model.specs.Register.{active_count}
use Rattle.archive_model.specs.State.{register_of}
use Rattle.archive_model.specs.Acceptance.{BookState, book_after}
use Rattle.archive_model.specs.Accepting.{Accepts}
use Rattle.control_core.specs.Desk.{DeskState}
use Rattle.control_core.specs.Changes.{checkpointed, desk_after}
use Rattle.control_core.specs.Decisions.{Allows}
use Rattle.control_core.specs.Agreement.{HasWritten}

-- an accepted command's entry was made; or a checkpoint wrote the catalogue anew, from which entries are counted again
pub data BookStep : Type 0 where
  Entered : Command → BookStep
  Recounted : BookStep

-- the history counts one entry for each active recording
abbrev pub recounted : BookState → BookState
recounted b = record b { counted = active_count (register_of b.state) }

-- the plain book after these steps, the first of them first
abbrev pub books_after : BookState → List BookStep → BookState
books_after b [] = b
books_after b (Entered c ∷ steps) = books_after (book_after b c) steps
books_after b (Recounted ∷ steps) = books_after (recounted b) steps

-- the desk after them
abbrev pub desks_after : DeskState → List BookStep → DeskState
desks_after d [] = d
desks_after d (Entered c ∷ steps) = desks_after (desk_after d c) steps
desks_after d (Recounted ∷ steps) = desks_after (checkpointed d) steps

-- each command is accepted by what the steps before it made
abbrev pub AreAcceptedSteps : BookState → List BookStep → Type 0
AreAcceptedSteps b [] = Unit {0}
AreAcceptedSteps b (Entered c ∷ steps) = Accepts b c × AreAcceptedSteps (book_after b c) steps
AreAcceptedSteps b (Recounted ∷ steps) = AreAcceptedSteps (recounted b) steps

-- the desk then allows each, too, and what an append records is what the recording's session wrote
abbrev pub AreAllowedSteps : BookState → DeskState → List BookStep → Type 0
AreAllowedSteps b d [] = Unit {0}
AreAllowedSteps b d (Entered c ∷ steps) = Allows d c × HasWritten d b.state c × AreAllowedSteps (book_after b c) (desk_after d c) steps
AreAllowedSteps b d (Recounted ∷ steps) = AreAllowedSteps (recounted b) (checkpointed d) steps

-- the plain book after the steps of calls, one call after another
abbrev pub books_after_calls : BookState → List (List BookStep) → BookState
books_after_calls b [] = b
books_after_calls b (steps ∷ made) = books_after_calls (books_after b steps) made

-- each command of calls is accepted by what was made before it
abbrev pub AreAcceptedCalls : BookState → List (List BookStep) → Type 0
AreAcceptedCalls b [] = Unit {0}
AreAcceptedCalls b (steps ∷ made) = AreAcceptedSteps b steps × AreAcceptedCalls (books_after b steps) made
