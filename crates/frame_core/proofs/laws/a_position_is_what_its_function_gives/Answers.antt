use Rattle.frame_core.proofs.PositionLemmas.{given, is_given}
use Rattle.frame_core.proofs.laws.a_position_is_what_its_function_gives.Goals as goal

pub returns-clause-given : goal.returns-clause-given
returns-clause-given c = given

pub returns-clause-all : goal.returns-clause-all
returns-clause-all c = is_given
