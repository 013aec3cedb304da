-- The bench is its own, before the look and after it.
use Rattle.server_recorder.proofs.SeatLemmas.{bench_looked}
use Rattle.server_recorder.proofs.seats.Seats.standing.Goals as goal

pub invariant_of-self : goal.invariant_of-self
invariant_of-self g c = bench_looked g.A.Naming.table c.self.inside.board c.self.inside.bench c.standing.new.self c.standing.new.self.pass.seen c.self.invariant c.standing.ensures.same c.standing.ensures.sees.pass
