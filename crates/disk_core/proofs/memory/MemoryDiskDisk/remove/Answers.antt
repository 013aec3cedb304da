use Rattle.std.proofs.Common.{inl, inr, refl, ap, arith}
use Rattle.disk_core.specs.declared.counts.Counts.{Counts}
use Rattle.disk_core.specs.Calls.{removed, IsRemoved}
use Rattle.disk_core.proofs.LogLemmas.{call_steps}
use Rattle.disk_core.proofs.memory.MemoryDiskDisk.remove.Goals as goal

pub returns-clause-step : goal.returns-clause-step
returns-clause-step c =
    let old = c.args.self.now in
    call_steps c.remove-outcome.result c.args.file removed IsRemoved old.change_log.log.items c.remove-outcome.new.self.log.items
    old.change_log.born c.remove-outcome.new.self.born old.counts.faults c.finish.new.self.faults c.remove-outcome.ensures.done c.remove-outcome.ensures.same
    c.remove-outcome.ensures.born old.change_log.born_before (omega (arith, c.finish.ensures.risen, ap (λ (k : Counts). k.faults) c.begin-injected.ensures.counted)) (λ s. inl refl) (λ s. inr (inl refl))
