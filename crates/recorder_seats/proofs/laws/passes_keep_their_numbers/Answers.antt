use Rattle.recorder_seats.proofs.PassLemmas.{all_made, still_each}
use Rattle.recorder_seats.proofs.laws.passes_keep_their_numbers.Goals as goal

pub returns-clause-kept : goal.returns-clause-kept
returns-clause-kept c = still_each

pub returns-clause-made : goal.returns-clause-made
returns-clause-made c = all_made
