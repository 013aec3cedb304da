use Rattle.std.proofs.Common.{◌≡◌}
use Rattle.image_core.specs.Kept.{without_positions}
use Rattle.image_core.proofs.held.withdraw.Given as goal

-- the positions that are left take out the rest
abbrev pub invariant-each : goal.invariant-each
invariant-each l = without_positions l.positions.items l.held.entries ≡ without_positions l.fn.positions.items l.fn.held.entries

abbrev pub decreases-each : goal.decreases-each
decreases-each l = goal.left-each l
