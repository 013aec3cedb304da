use Rattle.std.proofs.Common.{rules}
use Rattle.agents_core.proofs.HandoffLemmas.{begins, splits}
use Rattle.agents_core.proofs.handoff.Handoff.new.Goals as goal

pub ruled-requires-clause-rule : goal.ruled-requires-clause-rule
ruled-requires-clause-rule g c = begins

pub another-other-requires-clause-rule : goal.another-other-requires-clause-rule
another-other-requires-clause-rule g c = splits _ _ (search rules) (search rules)
