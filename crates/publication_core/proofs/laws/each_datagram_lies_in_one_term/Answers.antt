use Rattle.publication_core.proofs.TermLemmas.{all_in_one_term}
use Rattle.publication_core.proofs.laws.each_datagram_lies_in_one_term.Goals as goal

pub returns-clause-sent : goal.returns-clause-sent
returns-clause-sent c = λ g publication from to stream calls is of. (all_in_one_term g publication from to stream calls is of).sent

pub returns-clause-waiting : goal.returns-clause-waiting
returns-clause-waiting c = λ g publication from to stream calls is of. (all_in_one_term g publication from to stream calls is of).waiting
