use Rattle.std.proofs.Common.{◌≡◌}
use Rattle.trial_agents.proofs.folder.follow.Given as goal

-- the reader is of the board
abbrev pub invariant-loop : goal.invariant-loop
invariant-loop g l =
    (goal.iterator-loop g).can_next l.iterator' × (goal.iterator-loop g).is_finite l.iterator' × (l.reader.table ≡ l.board)
