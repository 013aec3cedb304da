use Rattle.std.proofs.Common.{◌+◌, ◌*◌}
use Rattle.agents_core.proofs.run.+replayers.Given as goal

abbrev pub decreases-run_replayers : goal.decreases-run_replayers
decreases-run_replayers g l = 3 * l.replayers.len + 1

abbrev pub decreases-run_replayer-scope : goal.decreases-run_replayer-scope
decreases-run_replayer-scope g l = 3 * l.rest.len + 2

abbrev pub decreases-run_replayer : goal.decreases-run_replayer
decreases-run_replayer g l = 3 * l.rest.len + 3
