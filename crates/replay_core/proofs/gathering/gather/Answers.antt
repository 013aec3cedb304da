use Rattle.segment_store.proofs.ChainLemmas.{quiet_on}
use Rattle.replay_core.proofs.PageLemmas.{gathers_after}
use Rattle.replay_core.proofs.gathering.gather.Goals as goal

pub returns-in_err-gather_more-clause-gathers : goal.returns-in_err-gather_more-clause-gathers
returns-in_err-gather_more-clause-gathers g c = gathers_after _ _ _ _ _ _ _ _ _ _ _ c.loop-alloc.invariant.1 c.gather_more.ensures.quiet c.loop-alloc.invariant.0 c.gather_more.ensures.gathers

pub returns-then-not-branch-clause-gathers : goal.returns-then-not-branch-clause-gathers
returns-then-not-branch-clause-gathers g c = gathers_after _ _ _ _ _ _ _ _ _ _ _ c.loop-alloc.invariant.1 c.gather_more.ensures.quiet c.loop-alloc.invariant.0 c.gather_more.ensures.gathers

pub loop-alloc-preserved : goal.loop-alloc-preserved
loop-alloc-preserved g c = (
  gathers_after _ _ _ _ _ _ _ _ _ _ _ c.loop-alloc.invariant.1 c.gather_more.ensures.quiet c.loop-alloc.invariant.0 c.gather_more.ensures.gathers,
  quiet_on _ _ _ c.loop-alloc.invariant.1 c.gather_more.ensures.quiet,
)
