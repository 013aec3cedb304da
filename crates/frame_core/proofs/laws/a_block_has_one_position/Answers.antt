use Rattle.frame_core.proofs.BlockLemmas.{one_start}
use Rattle.frame_core.proofs.laws.a_block_has_one_position.Goals as goal

pub returns : goal.returns
returns c = one_start
