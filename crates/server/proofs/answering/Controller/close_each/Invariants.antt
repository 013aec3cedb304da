use Rattle.std.proofs.Common.{take}
use Rattle.server.specs.Answering.{ClosesEach}
use Rattle.server.proofs.answering.Controller.close_each.Given as goal

-- those before are closed
abbrev pub invariant-loop-index : goal.invariant-loop-index
invariant-loop-index g l = ClosesEach g.D.Disk.life g.A.Naming.opening (take l.index l.replays) l.fn.self l.self
