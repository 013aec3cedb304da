use Rattle.control_core.proofs.StepLemmas.{open_step, poll_step, sweep_step, verify_step}
use Rattle.control_core.proofs.laws.what_is_decided_on_a_read_is_a_step.Goals as goal

pub returns-clause-polled : goal.returns-clause-polled
returns-clause-polled c = poll_step

pub returns-clause-opened : goal.returns-clause-opened
returns-clause-opened c = open_step

pub returns-clause-swept : goal.returns-clause-swept
returns-clause-swept c = sweep_step

pub returns-clause-verified : goal.returns-clause-verified
returns-clause-verified c = verify_step
