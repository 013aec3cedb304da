use Rattle.std.proofs.Common.{◌≡◌, ◌-◌, length}
use Rattle.host_disk.proofs.ReadLemmas.{IsReading}
use Rattle.host_disk.specs.Looked.{events_of}
use Rattle.host_disk.proofs.read_folder.ReadFolderDisk.read_at.Given as goal

abbrev pub invariant-loop-done : goal.invariant-loop-done
invariant-loop-done l =
    IsReading l.file l.at l.initial.into l.into (events_of l.initial.self.folder) (events_of l.self.folder) l.done
    × (l.self.faults ≡ l.initial.self.faults)

abbrev pub decreases-loop-done : goal.decreases-loop-done
decreases-loop-done l = length l.initial.into - l.done
