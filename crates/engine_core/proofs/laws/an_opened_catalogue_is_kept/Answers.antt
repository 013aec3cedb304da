use Rattle.engine_core.proofs.openings.FoundLemmas.{opened_kept}
use Rattle.engine_core.proofs.laws.an_opened_catalogue_is_kept.Goals as goal

pub returns : goal.returns
returns c = opened_kept
