use Rattle.std.proofs.Common.{ap, rules}
use Rattle.agents_core.proofs.HandoffLemmas.{joins, totals}
use Rattle.agents_core.proofs.handoff.Handoff.compare.Goals as goal

pub absorb-requires-clause-rule : goal.absorb-requires-clause-rule
absorb-requires-clause-rule g c = joins _ _ _ _ (ap (λ v. v.puts) c.putter.invariant.1) (ap (λ v. v.takes) c.taker.invariant.1)

pub learn_as-requires-clause-rule : goal.learn_as-requires-clause-rule
learn_as-requires-clause-rule g c = totals _ _ (search rules) (search rules)
