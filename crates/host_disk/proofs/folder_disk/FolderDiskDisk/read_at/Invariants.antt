use Rattle.std.proofs.Common.{◌≡◌, ◌-◌, length, false}
use Rattle.host_disk.specs.Lost.{covers}
use Rattle.host_disk.proofs.ReadLemmas.{IsReading}
use Rattle.host_disk.proofs.folder_disk.FolderDiskDisk.read_at.Given as goal

abbrev pub invariant-loop-done : goal.invariant-loop-done
invariant-loop-done g l =
    IsReading l.file l.at l.initial.into l.into (g.F.Folder.events l.initial.self.folder) (g.F.Folder.events l.self.folder) l.done
    × (l.self.faults ≡ l.initial.self.faults) × (covers l.self.lost l.file ≡ false)

abbrev pub decreases-loop-done : goal.decreases-loop-done
decreases-loop-done g l = length l.initial.into - l.done
