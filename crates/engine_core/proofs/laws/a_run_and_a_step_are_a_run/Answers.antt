use Rattle.engine_core.proofs.calls.RunLemmas.{run_more, run_none}
use Rattle.engine_core.proofs.laws.a_run_and_a_step_are_a_run.Goals as goal

pub returns-clause-none : goal.returns-clause-none
returns-clause-none c = run_none

pub returns-clause-more : goal.returns-clause-more
returns-clause-more c = run_more
