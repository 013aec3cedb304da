use Rattle.publication_core.proofs.KeepingLemmas.{all_past}
use Rattle.publication_core.proofs.laws.what_was_consumed_is_not_kept.Goals as goal

pub returns : goal.returns
returns c = all_past
