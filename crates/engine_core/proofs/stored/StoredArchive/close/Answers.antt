use Rattle.std.proofs.Common.{rules, ◌≡◌, sym, subst, refl, Err}
use Rattle.control_core.specs.declared.event.Event.TheVariants as events
use Rattle.engine_core.proofs.Words.{EndsEvent, NoMemory}
use Rattle.engine_core.proofs.calls.EndedLemmas.{quiet_life}
use Rattle.engine_core.proofs.replays.ReplayCallLemmas.{close_refused, closed}
use Rattle.std.proofs.Common.{◌∙◌, ap}
use Rattle.archive_model.specs.declared.reply.Reply.TheVariants as replies
use Rattle.control_core.specs.Turns.{close_tests}
use Rattle.engine_core.proofs.calls.SweepCallLemmas.{one_refusal}
use Rattle.engine_core.proofs.calls.TouchLemmas.{checked_memory}
use Rattle.engine_core.proofs.calls.KeepLemmas.{quiet_keeps, still_keeps}
use Rattle.engine_core.proofs.stored.StoredArchive.close.Goals as goal

pub returns-in_err-found-clause-ends : goal.returns-in_err-found-clause-ends
returns-in_err-found-clause-ends g c =
    let is : c.from_residual.result ≡ Err c.in_err-found.field-0.0 = search rules in
    subst (EndsEvent _ _ (events.ReplayClose c.args.replay.now)) (sym is) (close_refused _ c.args.replay.now c.in_err-found.field-0.0 c.in_err-found.ensures.decided)

pub returns-clause-ends : goal.returns-clause-ends
returns-clause-ends g c = closed _ _ c.args.replay.now (quiet_life _) refl c.close_replay.ensures c.in_ok-found.ensures.decided

pub returns-in_err-found-clause-memory : goal.returns-in_err-found-clause-memory
returns-in_err-found-clause-memory g c memory =
    let is : c.from_residual.result ≡ Err c.in_err-found.field-0.0 = search rules in
    let same : c.in_err-found.field-0.0 ≡ NoMemory = one_refusal c.from_residual.result _ _ is memory in
    absurd (checked_memory (close_tests c.args.self.now.desk.state c.args.replay.now) replies.Closed (Err NoMemory) (ap Err (sym same) ∙ sym c.in_err-found.ensures.decided) refl)

pub returns-in_err-found-clause-catalogue : goal.returns-in_err-found-clause-catalogue
returns-in_err-found-clause-catalogue g c = still_keeps _ _

pub returns-clause-catalogue : goal.returns-clause-catalogue
returns-clause-catalogue g c = quiet_keeps _ _ _ (quiet_life _) refl (ap (λ d. d.register) c.close_replay.ensures)
