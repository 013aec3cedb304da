use Rattle.std.proofs.Common.{ap}
use Rattle.agents_core.proofs.HandoffLemmas.{takes}
use Rattle.agents_core.proofs.handoff.Handoff.take.Goals as goal

pub pop_as-requires-clause-rule : goal.pop_as-requires-clause-rule
pop_as-requires-clause-rule g c = (takes _ _ (ap (λ v. v.takes) c.taker.invariant.1), λ items views kept at. tt)
