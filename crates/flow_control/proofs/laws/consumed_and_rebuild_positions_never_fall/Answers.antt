use Rattle.flow_control.proofs.ProgressLemmas.{given, offered, taken_in}
use Rattle.flow_control.proofs.laws.consumed_and_rebuild_positions_never_fall.Goals as goal

pub returns-clause-taken_in : goal.returns-clause-taken_in
returns-clause-taken_in c old new fs i takes = taken_in old new fs i takes

pub returns-clause-offered : goal.returns-clause-offered
returns-clause-offered c old new fs found offers = offered old new fs found offers

pub returns-clause-given : goal.returns-clause-given
returns-clause-given c old new b gives = given old new b gives
