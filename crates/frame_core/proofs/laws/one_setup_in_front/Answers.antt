use Rattle.frame_core.proofs.SetupLemmas.{one_setup, one_join}
use Rattle.frame_core.proofs.laws.one_setup_in_front.Goals as goal

pub returns : goal.returns
returns c = record { frame = one_setup; position = one_join }
