use Rattle.publication_core.proofs.CopyLemmas.{copied_within}
use Rattle.publication_core.proofs.laws.a_sender_within_its_limit_makes_a_copy.Goals as goal

pub returns : goal.returns
returns c = copied_within
