use Rattle.engine_core.proofs.Words.{seen, state_of}
use Rattle.replay_core.specs.Pages.{kept}
use Rattle.engine_core.proofs.calls.PageCallLemmas.{handing_keeps}
use Rattle.engine_core.proofs.engine.Engine.hand_on.Goals as goal

pub invariant_of-self : goal.invariant_of-self
invariant_of-self g c = record {
  paged = λ obeys.
      let old = seen g.D.Disk.life c.args.self.now in
      let new = state_of g.D.Disk.life c.hand_on.new.self in
      handing_keeps g.T.FrameTaker.takes g.T.FrameTaker.leaves c.args.taker.now _ old new _ c.hand_on.result c.args.self.now.generation (kept c.hand_on.new.pages) c.a_desk_is_orderly.ensures c.hand_on.ensures.handed (c.hand_on.ensures.paged obeys) obeys;
}
