use Rattle.std.proofs.Common.{length}
use Rattle.agents_core.proofs.run.+are_on.Given as goal

abbrev pub decreases-are_on : goal.decreases-are_on
decreases-are_on g l = length l.replayers.now
