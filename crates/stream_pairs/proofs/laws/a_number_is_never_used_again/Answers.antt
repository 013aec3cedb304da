use Rattle.stream_pairs.proofs.GivingLemmas.{never_used_again}
use Rattle.stream_pairs.proofs.laws.a_number_is_never_used_again.Goals as goal

pub returns : goal.returns
returns c = never_used_again
