use Rattle.std.proofs.Common.{rules}
use Rattle.recorder_seats.proofs.AnswerLemmas.{settling_told}
use Rattle.recorder_seats.proofs.SeatLemmas.{settled_over, settled_then_raised}
use Rattle.recorder_seats.proofs.seat.RecorderSeat.settle_with_standing.Goals as goal

pub settled_position-answer-requires : goal.settled_position-answer-requires
settled_position-answer-requires g c = settling_told g.D.Disk.life g.A.Naming.opening c.self.inside.pass c.call_with_standing-outcome.new.pass _ c.call_with_standing-outcome.result.0 c.call_with_standing-outcome.ensures.answers

pub invariant_of-self : goal.invariant_of-self
invariant_of-self g c = settled_then_raised g.D.Disk.life g.A.Naming.opening c.self.inside.pass c.call_with_standing-outcome.new.pass c.self.inside.writer c.raise.new.writer _ c.in-Ok.position c.settled_position-answer.result c.call_with_standing-outcome.result.0 c.settled_position-answer.ensures (search rules) c.call_with_standing-outcome.ensures.answers (search rules) c.self.invariant

pub invariant_of-self-else-position-last : goal.invariant_of-self-else-position-last
invariant_of-self-else-position-last g c = settled_over g.D.Disk.life g.A.Naming.opening c.self.inside.pass c.call_with_standing-outcome.new.pass c.self.inside.writer _ c.call_with_standing-outcome.result.0 c.call_with_standing-outcome.ensures.answers c.call_with_standing-outcome.ensures.unnoted c.self.invariant

pub invariant_of-self-in_default : goal.invariant_of-self-in_default
invariant_of-self-in_default g c = settled_over g.D.Disk.life g.A.Naming.opening c.self.inside.pass c.call_with_standing-outcome.new.pass c.self.inside.writer _ c.call_with_standing-outcome.result.0 c.call_with_standing-outcome.ensures.answers c.call_with_standing-outcome.ensures.unnoted c.self.invariant
