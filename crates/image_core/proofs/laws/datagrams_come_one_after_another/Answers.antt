use Rattle.image_core.proofs.ReceivedLemmas.{received-append}
use Rattle.image_core.proofs.laws.datagrams_come_one_after_another.Goals as goal

pub returns : goal.returns
returns c r fs gs = received-append r fs gs
