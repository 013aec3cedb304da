use Rattle.std.proofs.Common.{◌≡◌, ◌<◌}
use Rattle.trial_agents.proofs.bounded.hand_out.Given as goal

-- the pass is of the archive, the reader of the board, and the slot one of the board's
abbrev pub invariant-loop : goal.invariant-loop
invariant-loop g l =
    (goal.iterator-loop g).can_next l.iterator' × (goal.iterator-loop g).is_finite l.iterator' × (l.replayer.pass.table ≡ g.A.Naming.table) × (l.replayer.reader.table ≡ l.board) × (l.replayer.slot < l.board.words)
