use Rattle.publication_core.proofs.CopyLemmas.{copied}
use Rattle.publication_core.proofs.laws.an_image_that_got_all_frames_is_a_copy.Goals as goal

pub returns : goal.returns
returns c = copied
