-- How `ask` ends by a verdict or a fault, if its words are right.
use Rattle.std.proofs.Common.{ℕ, List, Option, inl, sym, subst}
use Rattle.command_line.specs.declared.asking.AskWords.{AskWords}
use Rattle.control_client.specs.declared.answer.Verdict.{Verdict}
use Rattle.control_client.specs.declared.answer.Verdict.TheVariants as verdicts
use Rattle.folder_commands.specs.declared.status.Ending.{Ending}
use Rattle.folder_commands.specs.declared.status.Ending.TheVariants.{Done, Cut, Refused, Unopened, FoundDamage, LineRefused, NoneBefore, Stuck, Hidden, NoCommand, Failed}
use Rattle.folder_commands.specs.Asking.{AskedUpTo, AsksServer, EndsAsking, IsUnaskable}

module _ (words : AskWords) (contents written : Option (List ℕ)) (fit : IsUnaskable words → ⊥) where
  left_unanswered : (left : ℕ) (ending : Ending) → AskedUpTo words contents written (verdicts.Unanswered left) → EndsAsking (verdicts.Unanswered left) ending
      → AsksServer words contents written ending
  left_unanswered left (Failed kind) asked ends = (fit, inl (left, asked))
  left_unanswered left Done asked ends = absurd ends
  left_unanswered left LineRefused asked ends = absurd ends
  left_unanswered left NoneBefore asked ends = absurd ends
  left_unanswered left (Stuck stop) asked ends = absurd ends
  left_unanswered left Hidden asked ends = absurd ends
  left_unanswered left (Cut end) asked ends = absurd ends
  left_unanswered left (Refused refusal) asked ends = absurd ends
  left_unanswered left (Unopened fault) asked ends = absurd ends
  left_unanswered left FoundDamage asked ends = absurd ends
  left_unanswered left (NoCommand kind) asked ends = absurd ends

  pub answered : (verdict : Verdict) (ending : Ending) → AskedUpTo words contents written verdict → EndsAsking verdict ending → AsksServer words contents written ending
  answered verdicts.Answered ending asked is = subst (AsksServer words contents written) (sym is) (fit, asked)
  answered verdicts.Refused ending asked is = subst (AsksServer words contents written) (sym is) (fit, asked)
  answered (verdicts.Unanswered left) ending asked ends = left_unanswered left ending asked ends
