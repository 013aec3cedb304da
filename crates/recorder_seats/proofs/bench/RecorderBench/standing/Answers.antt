use Rattle.recorder_seats.proofs.BenchLemmas.{all_looking}
use Rattle.recorder_seats.proofs.bench.RecorderBench.standing.Goals as goal

pub invariant_of-self : goal.invariant_of-self
invariant_of-self g c = all_looking c.self.inside.pass c.standing.new.pass c.self.inside.seats.items c.standing.new.pass.seen c.standing.ensures.pass c.self.invariant
