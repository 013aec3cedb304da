use Rattle.recorder_seats.proofs.BenchLemmas.{all_over_result}
use Rattle.recorder_seats.proofs.bench.RecorderBench.calls.Goals as goal

pub invariant_of-self : goal.invariant_of-self
invariant_of-self g c = all_over_result g.D.Disk.life g.A.Naming.opening c.self.inside.pass c.calls.new.pass c.self.inside.seats.items c.args.events.now (λ outcomes. outcomes.items) c.calls.result c.calls.ensures.answers c.calls.ensures.refused c.self.invariant
