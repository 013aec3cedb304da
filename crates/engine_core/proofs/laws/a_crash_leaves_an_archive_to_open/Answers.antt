use Rattle.engine_core.proofs.calls.RunLemmas.{crash_meanwhile, crash_now}
use Rattle.engine_core.proofs.laws.a_crash_leaves_an_archive_to_open.Goals as goal

pub returns-clause-meanwhile : goal.returns-clause-meanwhile
returns-clause-meanwhile c = crash_meanwhile

pub returns-clause-now : goal.returns-clause-now
returns-clause-now c = crash_now
