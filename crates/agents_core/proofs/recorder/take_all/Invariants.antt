use Rattle.agents_core.proofs.RecorderLemmas.{TakesAll}
use Rattle.agents_core.proofs.recorder.take_all.Given as goal

abbrev pub invariant-loop : goal.invariant-loop
invariant-loop g l = TakesAll l.fn.recorder l.fn.handoff l.recorder l.taker
