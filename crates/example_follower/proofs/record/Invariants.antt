use Rattle.std.proofs.Common.{◌≡◌}
use Rattle.example_follower.proofs.record.Given as goal

-- the pass is of the archive and keeps its number, and the writer is of the board
abbrev pub invariant-loop-position : goal.invariant-loop-position
invariant-loop-position g l = (l.seat.pass.table ≡ g.A.Naming.table) × (l.seat.pass.number ≡ l.fn.seat.pass.number) × (l.seat.writer.table ≡ l.board)
