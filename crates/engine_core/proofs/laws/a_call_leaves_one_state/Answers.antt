use Rattle.engine_core.proofs.calls.RunLemmas.{one_answered, one_refused}
use Rattle.engine_core.proofs.laws.a_call_leaves_one_state.Goals as goal

pub returns-clause-answered : goal.returns-clause-answered
returns-clause-answered c = one_answered

pub returns-clause-refused : goal.returns-clause-refused
returns-clause-refused c = one_refused
