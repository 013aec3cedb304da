use Rattle.std.proofs.Common.{◌≡◌}
use Rattle.trial_agents.proofs.speed.sum_of_looks.Given as goal

-- the reader is of the board
abbrev pub invariant-loop : goal.invariant-loop
invariant-loop l = l.reader.table ≡ l.board
