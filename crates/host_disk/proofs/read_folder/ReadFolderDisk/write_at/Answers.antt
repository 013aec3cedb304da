use Rattle.std.proofs.Common.{inl, refl, length}
use Rattle.disk_core.specs.Calls.{IsWritten}
use Rattle.host_disk.specs.Looked.{events_of}
use Rattle.host_disk.proofs.RefusedLemmas.{refused_steps}
use Rattle.host_disk.proofs.read_folder.ReadFolderDisk.write_at.Goals as goal

pub returns-clause-step : goal.returns-clause-step
returns-clause-step c = refused_steps c.args.file (IsWritten c.args.at (length c.args._bytes.now)) (events_of c.args.self.now.folder) (events_of c.refuse.new.self.folder) c.args.self.now.faults c.refuse.new.self.faults _ (λ state. inl refl) c.refuse.ensures.noted c.refuse.ensures.more
