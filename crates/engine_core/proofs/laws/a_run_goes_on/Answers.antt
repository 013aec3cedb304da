use Rattle.engine_core.proofs.calls.RunLemmas.{run_each, run_failed, run_goes_on}
use Rattle.engine_core.proofs.laws.a_run_goes_on.Goals as goal

pub returns-clause-goes_on : goal.returns-clause-goes_on
returns-clause-goes_on c = run_goes_on

pub returns-clause-cause : goal.returns-clause-cause
returns-clause-cause c = run_failed

pub returns-clause-each : goal.returns-clause-each
returns-clause-each c = run_each
