use Rattle.std.proofs.Common.{ap}
use Rattle.agents_core.proofs.HandoffLemmas.{puts, waits_last}
use Rattle.agents_core.proofs.handoff.Handoff.put.Goals as goal

pub push_as-requires-clause-rule : goal.push_as-requires-clause-rule
push_as-requires-clause-rule g c = let may = ap (λ v. v.puts) c.putter.invariant.1 in (puts _ _ _ _ may, waits_last _ _ may)
