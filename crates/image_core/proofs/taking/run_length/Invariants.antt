use Rattle.std.proofs.Common.{◌≡◌, ◌+◌, ◌-◌, ◌≤◌, ◌^◌}
use Rattle.image_core.specs.Kept.{run_length}
use Rattle.image_core.proofs.taking.run_length.Given as goal

-- so many messages were counted, and the others go on where they end
abbrev pub invariant-each : goal.invariant-each
invariant-each l = record {
  counted : run_length l.ids l.from l.offset l.limit l.held.entries ≡ run_length l.ids (l.from + l.covered) (l.offset + l.covered) l.limit l.held.entries + l.count;
  within : l.offset + l.covered ≤ l.limit;
  few : l.count ≤ l.covered;
  ends : l.from + l.covered ≤ 2 ^ 62;
}

abbrev pub decreases-each : goal.decreases-each
decreases-each l = l.limit - (l.offset + l.covered)
