use Rattle.control_core.proofs.DecidedLemmas.{settles_session}
use Rattle.control_core.proofs.laws.a_settling_has_its_session.Goals as goal

pub returns : goal.returns
returns c = settles_session
