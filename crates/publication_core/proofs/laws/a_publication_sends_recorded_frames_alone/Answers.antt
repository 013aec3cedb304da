use Rattle.publication_core.proofs.MadeLemmas.{made_all}
use Rattle.publication_core.proofs.ReadLemmas.{read_alone}
use Rattle.publication_core.proofs.laws.a_publication_sends_recorded_frames_alone.Goals as goal

pub returns-clause-sent : goal.returns-clause-sent
returns-clause-sent c = λ g publication from to stream calls is of. (made_all g publication from to stream calls is of).sent

pub returns-clause-waiting : goal.returns-clause-waiting
returns-clause-waiting c = λ g publication from to stream calls is of. (made_all g publication from to stream calls is of).waiting

pub returns-clause-alone : goal.returns-clause-alone
returns-clause-alone c = read_alone
