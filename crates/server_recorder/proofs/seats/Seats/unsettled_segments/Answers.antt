-- The bench is its own, before the look and after it.
use Rattle.server_recorder.proofs.SeatLemmas.{bench_looked}
use Rattle.server_recorder.proofs.seats.Seats.unsettled_segments.Goals as goal

pub invariant_of-self : goal.invariant_of-self
invariant_of-self g c = bench_looked g.A.Naming.table c.self.inside.board c.self.inside.bench c.unsettled_segments.new.self c.unsettled_segments.new.self.pass.seen c.self.invariant c.unsettled_segments.ensures.same c.unsettled_segments.ensures.sees.pass
