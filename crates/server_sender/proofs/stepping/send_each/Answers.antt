use Rattle.std.proofs.Common.{arith}
use Rattle.server_sender.proofs.SteppingLemmas.{sent_so_many}
use Rattle.server_sender.proofs.stepping.send_each.Goals as goal

pub returns-in-Idle : goal.returns-in-Idle
returns-in-Idle g c =
    rw c.stepped_after.ensures
    (sent_so_many g.E.SendEnd.puts c.args.to.now c.args.now c.args.most c.loop-count.count _ _ _ _ _ _ (omega (arith, c.loop-count-test.true)) c.loop-count.invariant
    (rw c.in-Idle.is at c.in_ok-send_next.ensures.steps))
