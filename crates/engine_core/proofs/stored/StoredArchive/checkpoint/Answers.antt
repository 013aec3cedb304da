use Rattle.std.proofs.Common.{rules, ◌≡◌, ◌∙◌, ap, Err}
use Rattle.catalogue_log.specs.Checkpointing.{log_on}
use Rattle.engine_core.proofs.calls.CheckpointCallLemmas.{banks_answer, broken_answers, renewed_answers, renews_nothing, unrenewed_answers}
use Rattle.engine_core.proofs.stored.StoredArchive.checkpoint.Goals as goal

pub returns-in_err-decide_sweep-clause-ends : goal.returns-in_err-decide_sweep-clause-ends
returns-in_err-decide_sweep-clause-ends g c =
    let is : c.from_residual.result ≡ Err c.in_err-decide_sweep.field-0.0 = search rules in
    broken_answers _ c.from_residual.result c.in_err-decide_sweep.field-0.0 is c.in_err-decide_sweep.ensures

pub returns-in_err-may_checkpoint-clause-ends : goal.returns-in_err-may_checkpoint-clause-ends
returns-in_err-may_checkpoint-clause-ends g c =
    let is : c.from_residual-in_err-may_checkpoint.result ≡ Err c.in_err-may_checkpoint.field-0.0 = search rules in
    banks_answer _ c.in_ok-decide_sweep.field-0 c.from_residual-in_err-may_checkpoint.result c.in_err-may_checkpoint.field-0.0 is c.in_ok-decide_sweep.ensures c.args.self.now.tied c.in_err-may_checkpoint.ensures.refused

pub returns-in_err-may_checkpoint-clause-catalogue : goal.returns-in_err-may_checkpoint-clause-catalogue
returns-in_err-may_checkpoint-clause-catalogue g c = renews_nothing _

pub returns-in-Ok-clause-ends : goal.returns-in-Ok-clause-ends
returns-in-Ok-clause-ends g c =
    let same = c.register.ensures.same in
    renewed_answers _ _ c.in_ok-may_checkpoint.ensures.may (record {
      decided = (c.in_ok-decide_sweep.field-0, c.in_ok-decide_sweep.ensures);
      changes = c.in-Ok.ensures.changes;
      moves = λ s sound is. c.in-Ok.ensures.moves s sound (same ∙ is);
    }) (c.in-Ok.ensures.made ∙ ap (log_on c.args.self.now.storage.log) same) c.note_checkpoint.ensures

pub returns-in-Err-clause-ends : goal.returns-in-Err-clause-ends
returns-in-Err-clause-ends g c =
    let same = c.register.ensures.same in
    unrenewed_answers _ _ c.in-Err.refusal c.failed.result c.failed.ensures.same c.args.self.now.tied c.in_ok-may_checkpoint.ensures.may (record {
      decided = (c.in_ok-decide_sweep.field-0, c.in_ok-decide_sweep.ensures);
      changes = c.in-Err.ensures.changes;
      moves = λ s sound is. c.in-Err.ensures.moves s sound (same ∙ is);
    }) c.in-Err.ensures.refusal c.in-Err.ensures.left c.failed.ensures.state
