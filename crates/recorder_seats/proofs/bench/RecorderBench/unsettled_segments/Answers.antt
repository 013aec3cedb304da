use Rattle.recorder_seats.proofs.BenchLemmas.{all_looking}
use Rattle.recorder_seats.proofs.bench.RecorderBench.unsettled_segments.Goals as goal

pub invariant_of-self : goal.invariant_of-self
invariant_of-self g c = all_looking c.self.inside.pass c.unsettled_segments.new.pass c.self.inside.seats.items c.unsettled_segments.new.pass.seen c.unsettled_segments.ensures.sees.pass c.self.invariant
