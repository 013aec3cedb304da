use Rattle.engine_core.proofs.protected.CallLemmas.{call_has}
use Rattle.engine_core.proofs.protected.OpenLemmas.{call_goes}
use Rattle.engine_core.proofs.laws.a_replay_stays_open.Goals as goal

pub returns-clause-goes_on : goal.returns-clause-goes_on
returns-clause-goes_on c = λ a b event outcome n replay consistent found unclosed ends. call_goes n replay a event outcome b consistent found unclosed ends

pub returns-clause-keeps : goal.returns-clause-keeps
returns-clause-keeps c = λ a b event outcome n replay r consistent found there low ends. call_has a event outcome b n replay r consistent ends found there low
