use Rattle.stream_pairs.proofs.GivingLemmas.{feeds_one_always}
use Rattle.stream_pairs.proofs.laws.an_image_feeds_one_session_at_most_if_places_are_given_back.Goals as goal

pub returns : goal.returns
returns c = feeds_one_always
