use Rattle.std.proofs.Common.{◌≡◌}
use Rattle.server.specs.Following.{IsSentOn}
use Rattle.server.proofs.pushing.send_all.Given as goal

-- all parts so far were sent, and the pass stays the archive's
abbrev pub invariant-loop : goal.invariant-loop
invariant-loop g l =
    IsSentOn l.stream (g.E.Disk.life l.fn.replayer.reader.disk) (g.E.Disk.life l.replayer.reader.disk) l.fn.replayer.reader.cursor l.replayer.reader.cursor (g.W.Write.contents l.fn.writer) (g.W.Write.contents l.writer)
    × (l.replayer.held.pass.table ≡ l.fn.replayer.held.pass.table)
    × (l.replayer.held.pass.number ≡ l.fn.replayer.held.pass.number)
