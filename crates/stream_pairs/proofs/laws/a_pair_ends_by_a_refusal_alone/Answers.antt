use Rattle.stream_pairs.proofs.RunLemmas.{stays}
use Rattle.stream_pairs.proofs.laws.a_pair_ends_by_a_refusal_alone.Goals as goal

pub returns : goal.returns
returns c = stays
