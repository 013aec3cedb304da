use Rattle.frame_core.proofs.NakLemmas.{one_nak}
use Rattle.frame_core.proofs.laws.one_nak_in_front.Goals as goal

pub returns : goal.returns
returns c = one_nak
