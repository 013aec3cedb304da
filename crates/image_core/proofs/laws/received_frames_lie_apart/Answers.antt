use Rattle.image_core.proofs.LawLemmas.{lie_apart}
use Rattle.image_core.proofs.laws.received_frames_lie_apart.Goals as goal

pub returns : goal.returns
returns c g publication join fs encodable = lie_apart g publication join fs encodable
