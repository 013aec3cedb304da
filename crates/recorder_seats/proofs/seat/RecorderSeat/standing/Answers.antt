use Rattle.recorder_seats.proofs.SeatLemmas.{settled_looking}
use Rattle.recorder_seats.proofs.seat.RecorderSeat.standing.Goals as goal

pub invariant_of-self : goal.invariant_of-self
invariant_of-self g c = settled_looking c.self.inside.pass c.standing.new.pass c.self.inside.writer c.standing.new.pass.seen c.standing.ensures.pass c.self.invariant
