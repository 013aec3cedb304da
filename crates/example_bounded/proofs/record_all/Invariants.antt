use Rattle.std.proofs.Common.{◌≡◌}
use Rattle.example_bounded.proofs.record_all.Given as goal

-- the pass is of the archive
abbrev pub invariant-loop-position : goal.invariant-loop-position
invariant-loop-position g l = l.pass.table ≡ g.A.Naming.table
