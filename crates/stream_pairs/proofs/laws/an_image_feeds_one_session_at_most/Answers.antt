use Rattle.stream_pairs.proofs.RunLemmas.{feeds_one}
use Rattle.stream_pairs.proofs.laws.an_image_feeds_one_session_at_most.Goals as goal

pub returns : goal.returns
returns c = feeds_one
