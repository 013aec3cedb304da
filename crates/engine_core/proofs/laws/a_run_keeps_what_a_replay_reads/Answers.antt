use Rattle.engine_core.proofs.protected.StretchLemmas.{run_reads}
use Rattle.engine_core.proofs.laws.a_run_keeps_what_a_replay_reads.Goals as goal

pub returns : goal.returns
returns c = run_reads
