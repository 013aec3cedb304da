use Rattle.control_core.proofs.CallLemmas.{opening_allowed}
use Rattle.control_core.proofs.OpenedLemmas.{opens_from_start}
use Rattle.control_core.proofs.laws.what_is_opened_is_allowed.Goals as goal

pub returns-clause-allowed : goal.returns-clause-allowed
returns-clause-allowed c = opening_allowed

pub returns-clause-from_start : goal.returns-clause-from_start
returns-clause-from_start c = opens_from_start
