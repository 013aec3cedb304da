use Rattle.std.proofs.Common.{◌∙◌, ap}
use Rattle.agents_core.specs.declared.item.Item.{Item}
use Rattle.agents_core.specs.Handoff.{PutterView}
use Rattle.agents_core.specs.Receivers.{ReceiverEnded}
use Rattle.agents_core.proofs.RunLemmas.{err_part, ok_part, pair_ran, receiver_moved}
use Rattle.agents_core.proofs.run.fn.hand_over.scope.Goals.{in-Ok, in-Err}
use Rattle.agents_core.proofs.run.fn.hand_over.scope.Goals as goal

pub returns : goal.returns
returns g c =
    let handed : ReceiverEnded g.S.BlockSource.gives c.captures.receiver c.captures.handoff.now c.match-receiving.receiver.0 c.match-receiving.receiver.1 = elim c.match-receiving.branch [
      | in-Ok w ↦ receiver_moved g.S.BlockSource.gives w.in-Ok.thread.promise.receiver.value c.captures.receiver w.in-Ok.thread.promise.putter.value.handoff c.captures.handoff.now w.join.result c.match-receiving.receiver
          ((λ i. (ok_part _ c.spawn_with-receiving.result w.in-Ok.thread w.in-Ok.is c.spawn_with-receiving.ensures.ok i).receiver.value) ∙ c.of.ensures)
          ((λ i. (ok_part _ c.spawn_with-receiving.result w.in-Ok.thread w.in-Ok.is c.spawn_with-receiving.ensures.ok i).putter.value.handoff) ∙ ap (λ (p : PutterView Item). p.handoff) (c.of-2.ensures ∙ c.requires.putter)) w.receiver-is w.join.ensures
      | in-Err w ↦ receiver_moved g.S.BlockSource.gives w.in-Err.refused.value.2 c.captures.receiver w.in-Err.refused.value.3.now c.captures.handoff.now w.spawn_with.result c.match-receiving.receiver
          (λ i. (err_part _ c.spawn_with-receiving.result w.in-Err.refused w.in-Err.is c.spawn_with-receiving.ensures.err i).2)
          (λ i. (err_part _ c.spawn_with-receiving.result w.in-Err.refused w.in-Err.is c.spawn_with-receiving.ensures.err i).3.now) w.receiver-is w.spawn_with.ensures
    ] in
    pair_ran g.S.BlockSource.gives c.captures.handoff.now c.captures.handoff.now c.captures.receiver c.captures.recorder c.match-receiving.receiver c.record-recorder.result handed c.record-recorder.ensures c.compare.ensures
