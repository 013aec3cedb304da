use Rattle.tool_core.proofs.GoingOnLemmas.{behind_a_crash, in_doubt, in_doubt_crashed, on_its_disk}
use Rattle.tool_core.proofs.laws.a_script_begins_where_one_ended.Goals as goal

pub returns-clause-again : goal.returns-clause-again
returns-clause-again c = on_its_disk

pub returns-clause-crashed : goal.returns-clause-crashed
returns-clause-crashed c = behind_a_crash

pub returns-clause-in_doubt : goal.returns-clause-in_doubt
returns-clause-in_doubt c = in_doubt

pub returns-clause-crashed_in_doubt : goal.returns-clause-crashed_in_doubt
returns-clause-crashed_in_doubt c = in_doubt_crashed
