use Rattle.flow_control.proofs.AdmissionLemmas.{bound_of, call, calls}
use Rattle.flow_control.proofs.laws.nothing_is_admitted_past_what_is_settled.Goals as goal

pub returns-clause-bound : goal.returns-clause-bound
returns-clause-bound c time most receiver_id bound r old new status gives = bound_of time most receiver_id bound r old new status gives

pub returns-clause-call : goal.returns-clause-call
returns-clause-call c g it is = call g it is

pub returns-clause-calls : goal.returns-clause-calls
returns-clause-calls c g from cs settled are = calls g from cs settled are
