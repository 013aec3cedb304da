use Rattle.publication_core.proofs.ShortLemmas.{all_short}
use Rattle.publication_core.proofs.laws.no_datagram_is_longer_than_the_mtu.Goals as goal

pub returns-clause-sent : goal.returns-clause-sent
returns-clause-sent c = λ g publication from to stream calls is mtu of. (all_short g publication from to stream calls is mtu of).sent

pub returns-clause-waiting : goal.returns-clause-waiting
returns-clause-waiting c = λ g publication from to stream calls is mtu of. (all_short g publication from to stream calls is mtu of).waiting
