use Rattle.stream_pairs.proofs.RunLemmas.{lost_feeds_none}
use Rattle.stream_pairs.proofs.laws.a_lost_image_is_never_paired_again.Goals as goal

pub returns : goal.returns
returns c = lost_feeds_none
