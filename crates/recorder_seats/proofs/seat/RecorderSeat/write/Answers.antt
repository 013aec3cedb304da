use Rattle.recorder_seats.proofs.SeatLemmas.{settled_over}
use Rattle.recorder_seats.proofs.seat.RecorderSeat.write.Goals as goal

pub invariant_of-self : goal.invariant_of-self
invariant_of-self g c = settled_over g.D.Disk.life g.A.Naming.opening c.self.inside.pass c.call.new.pass c.self.inside.writer _ c.call.result c.call.ensures.answers c.call.ensures.unnoted c.self.invariant
