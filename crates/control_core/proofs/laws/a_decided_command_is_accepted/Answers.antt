use Rattle.control_core.proofs.DecidedLemmas.{decided_accepted}
use Rattle.control_core.proofs.laws.a_decided_command_is_accepted.Goals as goal

pub returns : goal.returns
returns c = decided_accepted
