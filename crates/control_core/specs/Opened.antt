-- What is decided on opening a replay before any frame is read, and what the code says of it. docs/CONTROL.md, "Replays".
use Rattle.std.specs.Prelude.{ℤ, Result}
use Rattle.frame_core.specs.declared.refusal.Refusal.{Refusal}
use Rattle.archive_model.specs.declared.registration.Registration.{Registration}
use Rattle.control_core.specs.declared.turns.Opening.{Opening}
use Rattle.control_core.specs.declared.turns.OpeningDecision.{OpeningDecision as Made}
use Rattle.control_core.specs.declared.turns.OpeningDecision.TheVariants as made

-- it is refused, or opened; or it depends on whether a frame begins at a position inside the recording
pub data OpeningDecision : Type 0 where
  Decided : Result Opening Refusal → OpeningDecision
  IfBoundary : ℤ → Result Opening Refusal → OpeningDecision

-- the decision, with which the code hands on the recording
abbrev pub said_opening : Made → OpeningDecision
said_opening (made.Decided decided) = Decided decided
said_opening (made.IfBoundary known position decided) = IfBoundary position decided

-- so is the recording that is handed on
abbrev pub IfOpensInside : Made → (Registration → Type 0) → Type 0
IfOpensInside (made.Decided decided) so = Unit {0}
IfOpensInside (made.IfBoundary known position decided) so = so known.now
