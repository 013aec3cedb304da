use Rattle.engine_core.proofs.files.StayLemmas.{enters}
use Rattle.engine_core.proofs.laws.an_accepted_command_enters_the_state_after_it.Goals as goal

pub returns : goal.returns
returns c = enters
