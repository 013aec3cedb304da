use Rattle.std.proofs.Common.{◌≡◌}
use Rattle.tests_library.proofs.boards.look_for_the_last.Given as goal

abbrev pub invariant-loop : goal.invariant-loop
invariant-loop l = l.reader.table ≡ l.board
