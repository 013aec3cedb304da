use Rattle.flow_control.proofs.AlignmentLemmas.{begun, given, offered, taken_in}
use Rattle.flow_control.proofs.laws.consumed_positions_are_multiples_of_32.Goals as goal

pub returns-clause-begun : goal.returns-clause-begun
returns-clause-begun c s r is = begun s r is

pub returns-clause-taken_in : goal.returns-clause-taken_in
returns-clause-taken_in c old new fs i takes is = taken_in old new fs i takes is

pub returns-clause-offered : goal.returns-clause-offered
returns-clause-offered c old new fs found offers is = offered old new fs found offers is

pub returns-clause-given : goal.returns-clause-given
returns-clause-given c old new b gives is = given old new b gives is
