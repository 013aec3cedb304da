use Rattle.engine_core.proofs.files.BlockLemmas.{stands_more}
use Rattle.engine_core.proofs.laws.blocks_stand_together.Goals as goal

pub returns : goal.returns
returns c image r bs block layout from is at base stands holds = stands_more image r bs block layout from is at base stands holds
