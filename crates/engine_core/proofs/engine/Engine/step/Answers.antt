use Rattle.std.proofs.Common.{sym, subst}
use Rattle.engine_core.proofs.Words.{seen, state_of}
use Rattle.replay_core.specs.Pages.{kept}
use Rattle.engine_core.specs.KeptPages.{KeepsPages}
use Rattle.engine_core.proofs.calls.PageCallLemmas.{event_keeps}
use Rattle.engine_core.proofs.engine.Engine.step.Goals as goal

pub invariant_of-self : goal.invariant_of-self
invariant_of-self g c = record {
  paged = λ obeys.
      let old = seen g.D.Disk.life c.args.self.now in
      let new = state_of g.D.Disk.life c.answer-result.new.self in
      let pages = kept c.answer-result.new.pages in
      let keeps = event_keeps old new c.args.event.now c.answer-result.result c.args.self.now.generation pages c.a_desk_is_orderly.ensures c.answer-result.ensures.answered (c.answer-result.ensures.paged obeys) in
      subst (λ n. KeepsPages new.life new.desk.register n pages) (sym c.generation_after-self.ensures) keeps obeys;
}
