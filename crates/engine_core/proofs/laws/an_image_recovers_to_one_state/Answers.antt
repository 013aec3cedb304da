use Rattle.engine_core.proofs.files.RecoveryLemmas.{one_state}
use Rattle.engine_core.proofs.laws.an_image_recovers_to_one_state.Goals as goal

pub returns : goal.returns
returns c = one_state
