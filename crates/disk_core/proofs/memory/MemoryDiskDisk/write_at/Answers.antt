use Rattle.std.proofs.Common.{length, inl, refl, ap, arith}
use Rattle.disk_core.specs.declared.counts.Counts.{Counts}
use Rattle.disk_core.specs.Calls.{write_to, IsWritten}
use Rattle.disk_core.proofs.OverwriteLemmas.{write_is_written}
use Rattle.disk_core.proofs.LogLemmas.{call_steps}
use Rattle.disk_core.proofs.memory.MemoryDiskDisk.write_at.Goals as goal

pub returns-clause-step : goal.returns-clause-step
returns-clause-step c =
    let old = c.args.self.now in
    call_steps c.write-outcome.result c.args.file (write_to c.args.at c.args.bytes.now) (IsWritten c.args.at (length c.args.bytes.now)) old.change_log.log.items c.write-outcome.new.self.log.items
    old.change_log.born c.write-outcome.new.self.born old.counts.faults c.finish.new.self.faults c.write-outcome.ensures.done c.write-outcome.ensures.same
    c.write-outcome.ensures.born old.change_log.born_before (omega (arith, c.finish.ensures.risen, ap (λ (k : Counts). k.faults) c.begin-injected.ensures.counted)) (λ s. inl refl) (write_is_written c.args.at c.args.bytes.now)
