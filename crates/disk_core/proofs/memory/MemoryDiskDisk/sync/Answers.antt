use Rattle.std.proofs.Common.{inr, refl, ap, arith}
use Rattle.disk_core.specs.declared.counts.Counts.{Counts}
use Rattle.disk_core.specs.Calls.{synced, IsSynced}
use Rattle.disk_core.proofs.LogLemmas.{goes_steps_born}
use Rattle.disk_core.proofs.memory.MemoryDiskDisk.sync.Goals as goal

pub returns-in-Ok-clause-step : goal.returns-in-Ok-clause-step
returns-in-Ok-clause-step c =
    let old = c.args.self.now in
    goes_steps_born c.args.file synced IsSynced old.change_log.log.items c.sync.new.self.log.items old.change_log.born c.sync.new.self.born old.counts.faults c.begin.new.self.faults
    c.in-Ok.ensures.done c.sync.ensures.born old.change_log.born_before (omega (arith, ap (λ (k : Counts). k.faults) c.begin.ensures.counted)) (λ s. inr refl)
