use Rattle.std.proofs.Common.{◌≡◌}
use Rattle.example_follower.proofs.follow.Given as goal

-- the reader is of the board
abbrev pub invariant-loop : goal.invariant-loop
invariant-loop g l = l.reader.table ≡ l.board
