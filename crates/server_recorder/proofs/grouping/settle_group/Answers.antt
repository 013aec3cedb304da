use Rattle.std.proofs.Common.{◌∙◌, refl}
use Rattle.server_recorder.proofs.SettlesLemmas.{answered, taken_paced, unanswered}
use Rattle.server_recorder.proofs.grouping.settle_group.Goals.{in-Ok, in-Err-DeviceFault, in-Err}
use Rattle.server_recorder.proofs.grouping.settle_group.Goals as goal

pub returns-in-Some-clause-settled : goal.returns-in-Some-clause-settled
returns-in-Some-clause-settled g c =
    let was = c.args.settling.now in
    let is = c.match-answer.settling in
    let seats = c.args.group.now in
    elim c.match-answer.branch [
      | in-Ok w ↦ answered c.match-answer.is_done seats was is w.is_done-is (taken_paced seats was w.note_time.new.settling is w.note_time.ensures (w.settling-is ∙ w.take_each.ensures))
      | in-Err-DeviceFault w ↦ answered c.match-answer.is_done seats was is w.is_done-is (taken_paced seats was was is refl (w.settling-is ∙ w.take_each-in-Err-DeviceFault.ensures))
      | in-Err w ↦ unanswered c.match-answer.is_done seats was is w.is_done-is w.settling-is
    ]
