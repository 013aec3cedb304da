use Rattle.publication_core.proofs.HoldLemmas.{holds_alone}
use Rattle.publication_core.proofs.laws.an_image_holds_recorded_frames_alone.Goals as goal

pub returns : goal.returns
returns c = holds_alone
