use Rattle.publication_core.proofs.OrderLemmas.{all_in_order}
use Rattle.publication_core.proofs.laws.a_publication_sends_its_frames_in_order.Goals as goal

pub returns : goal.returns
returns c = all_in_order
