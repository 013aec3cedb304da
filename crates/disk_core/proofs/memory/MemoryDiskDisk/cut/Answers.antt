use Rattle.std.proofs.Common.{inl, refl, ap, arith}
use Rattle.disk_core.specs.declared.counts.Counts.{Counts}
use Rattle.disk_core.specs.Calls.{cut_to, IsCut}
use Rattle.disk_core.proofs.DiskImageLemmas.{cut_is_cut}
use Rattle.disk_core.proofs.LogLemmas.{call_steps}
use Rattle.disk_core.proofs.memory.MemoryDiskDisk.cut.Goals as goal

pub returns-clause-step : goal.returns-clause-step
returns-clause-step c =
    let old = c.args.self.now in
    call_steps c.cut-outcome.result c.args.file (cut_to c.args.len) (IsCut c.args.len) old.change_log.log.items c.cut-outcome.new.self.log.items
    old.change_log.born c.cut-outcome.new.self.born old.counts.faults c.finish.new.self.faults c.cut-outcome.ensures.done c.cut-outcome.ensures.same
    c.cut-outcome.ensures.born old.change_log.born_before (omega (arith, c.finish.ensures.risen, ap (λ (k : Counts). k.faults) c.begin-injected.ensures.counted)) (λ s. inl refl) (cut_is_cut c.args.len)
