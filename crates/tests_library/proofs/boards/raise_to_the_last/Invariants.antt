use Rattle.std.proofs.Common.{◌≡◌}
use Rattle.tests_library.proofs.boards.raise_to_the_last.Given as goal

abbrev pub invariant-loop : goal.invariant-loop
invariant-loop l = l.writer.table ≡ l.board
