use Rattle.archive_model.proofs.StateLemmas.{well_after}
use Rattle.archive_model.proofs.laws.an_accepted_command_keeps_states_well_formed.Goals as goal

pub returns : goal.returns
returns c = λ b command well accepted. well_after b command well accepted
