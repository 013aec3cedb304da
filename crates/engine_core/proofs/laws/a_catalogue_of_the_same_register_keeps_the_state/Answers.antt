use Rattle.engine_core.proofs.files.AnewLemmas.{recovered_register, register_moments}
use Rattle.engine_core.proofs.laws.a_catalogue_of_the_same_register_keeps_the_state.Goals as goal

pub returns-clause-start : goal.returns-clause-start
returns-clause-start c = recovered_register

pub returns-clause-moments : goal.returns-clause-moments
returns-clause-moments c = register_moments
