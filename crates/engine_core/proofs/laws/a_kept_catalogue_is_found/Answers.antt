use Rattle.engine_core.proofs.calls.KeptRunLemmas.{kept_found}
use Rattle.engine_core.proofs.laws.a_kept_catalogue_is_found.Goals as goal

pub returns : goal.returns
returns c = kept_found
