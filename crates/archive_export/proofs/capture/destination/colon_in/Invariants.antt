use Rattle.std.proofs.Common.{◌≤◌, length, drop, not}
use Rattle.std.specs.Prelude.{◌==◌}
use Rattle.std.specs.List.{AllPass}
use Rattle.archive_export.proofs.capture.destination.colon_in.Given as goal

-- no colon stands behind
abbrev pub invariant-loop-at : goal.invariant-loop-at
invariant-loop-at l = (l.at ≤ length l.endpoint) × AllPass (λ b. not (b == 58)) (drop l.at l.endpoint)

abbrev pub decreases-loop-at : goal.decreases-loop-at
decreases-loop-at l = l.at
