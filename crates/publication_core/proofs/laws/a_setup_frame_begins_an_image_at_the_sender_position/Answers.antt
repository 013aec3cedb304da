use Rattle.publication_core.proofs.JoinLemmas.{all_begin}
use Rattle.publication_core.proofs.laws.a_setup_frame_begins_an_image_at_the_sender_position.Goals as goal

pub returns : goal.returns
returns c = all_begin
