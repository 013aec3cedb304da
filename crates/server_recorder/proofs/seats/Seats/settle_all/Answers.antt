-- The bench is its own, before the settling and after it.
use Rattle.server_recorder.proofs.SeatLemmas.{bench_settled_all}
use Rattle.server_recorder.proofs.seats.Seats.settle_all.Goals as goal

pub invariant_of-self : goal.invariant_of-self
invariant_of-self g c = bench_settled_all g.A.Naming.table c.self.inside.board c.self.inside.bench c.settle_all.new.self c.args.seats.now c.settle_all.result.0 c.self.invariant c.settle_all.ensures.pass c.settle_all.ensures.raised
