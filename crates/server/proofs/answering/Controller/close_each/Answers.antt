-- The next one is closed.
use Rattle.std.proofs.Common.{rules}
use Rattle.server.proofs.ClientLemmas.{closes_next}
use Rattle.server.proofs.answering.Controller.close_each.Goals as goal

pub loop-index-preserved : goal.loop-index-preserved
loop-index-preserved g c = closes_next g.D.Disk.life g.A.Naming.opening c.args.replays.now c.loop-index.index _ _ c.loop-index.self c.close.new.self c.loop-index-test.true (search rules) c.loop-index.invariant c.close.ensures
