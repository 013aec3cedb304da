use Rattle.recorder_seats.proofs.BenchLemmas.{all_over}
use Rattle.recorder_seats.proofs.bench.RecorderBench.call.Goals as goal

pub invariant_of-self : goal.invariant_of-self
invariant_of-self g c = all_over g.D.Disk.life g.A.Naming.opening c.self.inside.pass c.call_with_standing.new.pass c.self.inside.seats.items _ c.call_with_standing.result.0 c.call_with_standing.ensures.answers c.call_with_standing.ensures.unnoted c.self.invariant
