use Rattle.std.proofs.Common.{◌≡◌}
use Rattle.tests_library.proofs.boards.is_followed.Given as goal

-- the writer and the reader are of the board
abbrev pub invariant-loop : goal.invariant-loop
invariant-loop l = (l.writer.table ≡ l.board) × (l.reader.table ≡ l.board)
