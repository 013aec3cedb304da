use Rattle.engine_core.proofs.calls.KeptRunLemmas.{run_keeps}
use Rattle.engine_core.proofs.laws.a_run_keeps_the_catalogue.Goals as goal

pub returns : goal.returns
returns c = run_keeps
