use Rattle.std.proofs.Common.{ℕ, ◌<◌, subst}
use Rattle.host_disk.proofs.FaultLemmas.{failures-calls}
use Rattle.host_disk.proofs.host_folder.HostFolder.last_fault.Goals as goal

pub returns : goal.returns
returns c more = c.last.ensures (subst (λ (n : ℕ). 0 < n) (failures-calls c.args.self.now.notes.record.events) more)
