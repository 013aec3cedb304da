use Rattle.std.proofs.Common.{◌≡◌}
use Rattle.trial_agents.proofs.speed.alone.Given as goal

-- the pass is of the archive, and the writer of the board
abbrev pub invariant-loop : goal.invariant-loop
invariant-loop g l =
    (goal.iterator-loop g).can_next l.iterator' × (goal.iterator-loop g).is_finite l.iterator' × (l.seat.pass.table ≡ g.A.Naming.table) × (l.seat.writer.table ≡ l.board)
