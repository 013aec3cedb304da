use Rattle.std.proofs.Common.{◌≡◌}
use Rattle.server.proofs.sending.read_all.Given as goal

-- the pass stays the archive's
abbrev pub invariant-loop : goal.invariant-loop
invariant-loop g l = (l.replayer.held.pass.table ≡ l.fn.replayer.held.pass.table) × (l.replayer.held.pass.number ≡ l.fn.replayer.held.pass.number)
