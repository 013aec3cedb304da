use Rattle.std.proofs.Common.{◌+◌, ◌*◌}
use Rattle.agents_core.proofs.run.+pairs.Given as goal

abbrev pub decreases-run_pairs : goal.decreases-run_pairs
decreases-run_pairs g l = 4 * l.agents.recorders.len + 1

abbrev pub decreases-run_last_pair-scope-spawn_with : goal.decreases-run_last_pair-scope-spawn_with
decreases-run_last_pair-scope-spawn_with g l = 4 * l.rest.recorders.len + 2

abbrev pub decreases-run_last_pair-scope : goal.decreases-run_last_pair-scope
decreases-run_last_pair-scope g l = 4 * l.rest.recorders.len + 3

abbrev pub decreases-run_last_pair : goal.decreases-run_last_pair
decreases-run_last_pair g l = 4 * l.rest.recorders.len + 4
