-- The bench is its own, with another session at a seat.
use Rattle.server_recorder.proofs.SeatLemmas.{bench_reseated}
use Rattle.server_recorder.proofs.seats.Seats.set_session.Goals as goal

pub invariant_of-self : goal.invariant_of-self
invariant_of-self g c = bench_reseated g.A.Naming.table c.self.inside.board c.self.inside.bench c.set_session.new.self c.args.seat _ c.self.invariant c.set_session.ensures
