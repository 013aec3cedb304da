use Rattle.engine_core.proofs.protected.StretchLemmas.{step_stands}
use Rattle.engine_core.proofs.laws.a_step_keeps_what_a_replay_reads.Goals as goal

pub returns : goal.returns
returns c = step_stands
