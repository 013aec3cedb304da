-- The bench is its own, before the settling and after it.
use Rattle.server_recorder.proofs.SeatLemmas.{bench_settled}
use Rattle.server_recorder.proofs.seats.Seats.settle.Goals as goal

pub invariant_of-self : goal.invariant_of-self
invariant_of-self g c = bench_settled g.A.Naming.table c.self.inside.board c.self.inside.bench c.settle.new.self c.args.seat c.settle.result.0 c.self.invariant c.settle.ensures.pass c.settle.ensures.raised
