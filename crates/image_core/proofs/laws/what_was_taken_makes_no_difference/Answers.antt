use Rattle.std.proofs.Common.{[], refl}
use Rattle.image_core.proofs.ReceivedLemmas.{unseen}
use Rattle.image_core.proofs.laws.what_was_taken_makes_no_difference.Goals as goal

pub returns-clause-begins : goal.returns-clause-begins
returns-clause-begins c r = record { taken = []; geometry = refl; publication = refl; chain = refl; joined = refl; high = refl }

pub returns-clause-unseen : goal.returns-clause-unseen
returns-clause-unseen c all r stands = unseen all r stands
