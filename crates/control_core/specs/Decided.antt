-- What is decided on a request before any frame is read, and what the code says of it. docs/CONTROL.md, "Requests".
use Rattle.std.specs.Prelude.{◌≡◌, ℤ, Result, Some}
use Rattle.frame_core.specs.declared.refusal.Refusal.{Refusal}
use Rattle.archive_model.specs.declared.command.Command.{Command}
use Rattle.archive_model.specs.declared.registration.Registration.{Registration}
use Rattle.archive_model.specs.declared.reply.Reply.{Reply}
use Rattle.archive_model.specs.Register.{RegisterState, id_of, registration_in}
use Rattle.control_core.specs.declared.decision.Decision.{Decision as Made}
use Rattle.control_core.specs.declared.decision.Decision.TheVariants as made

-- it is refused; answered, and changes nothing; a command; or, by recording and position, it depends on whether a frame
-- begins there
pub data Decision : Type 0 where
  Refused : Refusal → Decision
  Answered : Reply → Decision
  Accepted : Command → Decision
  IfBoundary : ℤ → ℤ → Result Command Refusal → Decision

-- the decision, of which the code hands on the recording itself
abbrev pub said : Made → Decision
said (made.Refused refusal) = Refused refusal
said (made.Answered reply) = Answered reply
said (made.Accepted command) = Accepted command
said (made.IfBoundary known position decided) = IfBoundary (id_of known.now) position decided

-- so is the recording that is handed on
abbrev pub IfInside : Made → (Registration → Type 0) → Type 0
IfInside (made.Refused refusal) so = Unit {0}
IfInside (made.Answered reply) so = Unit {0}
IfInside (made.Accepted command) so = Unit {0}
IfInside (made.IfBoundary known position decided) so = so known.now

-- it is the register's
abbrev pub IsKnown : RegisterState → Registration → Type 0
IsKnown g known = registration_in g (id_of known) ≡ Some known
