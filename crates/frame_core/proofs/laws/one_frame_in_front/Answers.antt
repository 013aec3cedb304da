use Rattle.frame_core.proofs.FrontLemmas.{one_front}
use Rattle.frame_core.proofs.laws.one_frame_in_front.Goals as goal

pub returns : goal.returns
returns c = one_front
