use Rattle.std.proofs.Common.{◌≡◌}
use Rattle.position_board.specs.Positions.{seen_at}
use Rattle.example_bounded.specs.Followed.{HandedOutBefore}
use Rattle.example_bounded.proofs.follow.Given as goal

-- the recorder is of the log and the slot, the replayer of the archive and the slot, and what was handed out begins before what
-- was seen
abbrev pub invariant-loop-position : goal.invariant-loop-position
invariant-loop-position g l =
    ((l.recorder.pass.table ≡ g.L.Naming.table) × (l.recorder.pass.number ≡ 0) × (l.recorder.writer.table ≡ l.board) × (l.recorder.writer.slot ≡ 0))
    × ((l.replayer.pass.table ≡ g.A.Naming.table) × (l.replayer.reader.table ≡ l.board) × (l.replayer.slot ≡ 0))
    × HandedOutBefore (seen_at 0 l.replayer.reader) l.turns.items
