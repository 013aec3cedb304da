use Rattle.engine_core.proofs.calls.RunLemmas.{run_ran}
use Rattle.engine_core.proofs.laws.a_run_keeps_the_archive.Goals as goal

pub returns : goal.returns
returns c = run_ran
