use Rattle.recorder_seats.proofs.BenchLemmas.{all_over}
use Rattle.recorder_seats.proofs.bench.RecorderBench.write.Goals as goal

pub invariant_of-self : goal.invariant_of-self
invariant_of-self g c = all_over g.D.Disk.life g.A.Naming.opening c.self.inside.pass c.call.new.pass c.self.inside.seats.items _ c.call.result c.call.ensures.answers c.call.ensures.unnoted c.self.invariant
