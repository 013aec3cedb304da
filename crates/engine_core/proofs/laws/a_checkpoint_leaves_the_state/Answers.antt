use Rattle.engine_core.proofs.calls.CheckpointCallLemmas.{left_alone}
use Rattle.engine_core.proofs.laws.a_checkpoint_leaves_the_state.Goals as goal

pub returns : goal.returns
returns c = left_alone
