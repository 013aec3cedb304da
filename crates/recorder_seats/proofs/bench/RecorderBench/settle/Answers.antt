use Rattle.std.specs.Prelude.{◌≡◌}
use Rattle.archive_lock.specs.History.{LeadsToDesk}
use Rattle.archive_lock.specs.Standing.{standing_of}
use Rattle.recorder_seats.proofs.AnswerLemmas.{settling_told}
use Rattle.recorder_seats.proofs.BenchLemmas.{alone_raised, standing_alone}
use Rattle.recorder_seats.proofs.bench.RecorderBench.settle.Goals as goal

pub settled_position-answer-requires : goal.settled_position-answer-requires
settled_position-answer-requires g c = settling_told g.D.Disk.life g.A.Naming.opening c.self.inside.pass c.call_with_standing-outcome.new.pass _ c.call_with_standing-outcome.result.0 c.call_with_standing-outcome.ensures.answers

pub invariant_of-self : goal.invariant_of-self
invariant_of-self g c = alone_raised g.D.Disk.life g.A.Naming.opening c.self.inside.pass c.call_with_standing-outcome.new.pass c.args.seat _ c.self.inside.seats.items c.raise_answered.new.seats.items c.settled_position-answer.result c.call_with_standing-outcome.result.0 c.settled_position-answer.ensures c.call_with_standing-outcome.ensures.answers c.call_with_standing-outcome.ensures.unnoted c.self.invariant c.raise_answered.ensures.raised

pub returns-clause-standing : goal.returns-clause-standing
returns-clause-standing g c = standing_alone c.call_with_standing-outcome.result.1 c.settled_position-answer.result c.call_with_standing-outcome.result.0 (λ standing. LeadsToDesk g.A.Naming.opening c.call_with_standing-outcome.new.pass.seen (λ d. standing ≡ standing_of d)) c.settled_position-answer.ensures c.call_with_standing-outcome.ensures.standing
