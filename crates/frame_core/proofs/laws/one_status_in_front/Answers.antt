use Rattle.frame_core.proofs.StatusLemmas.{one_status}
use Rattle.frame_core.proofs.laws.one_status_in_front.Goals as goal

pub returns : goal.returns
returns c = one_status
