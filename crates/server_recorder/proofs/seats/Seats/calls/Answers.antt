-- The bench is its own, before the call and after it.
use Rattle.server_recorder.proofs.SeatLemmas.{bench_called}
use Rattle.server_recorder.proofs.seats.Seats.calls.Goals as goal

pub invariant_of-self : goal.invariant_of-self
invariant_of-self g c = bench_called g.A.Naming.table c.self.inside.board c.self.inside.bench c.calls.new.self c.self.invariant c.calls.ensures.same c.calls.ensures.pass
