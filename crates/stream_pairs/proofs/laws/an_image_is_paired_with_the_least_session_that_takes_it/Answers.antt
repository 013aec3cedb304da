use Rattle.stream_pairs.proofs.PairLemmas.{may_feed}
use Rattle.stream_pairs.proofs.laws.an_image_is_paired_with_the_least_session_that_takes_it.Goals as goal

pub returns : goal.returns
returns c = may_feed
