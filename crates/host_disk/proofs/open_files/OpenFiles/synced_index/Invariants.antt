use Rattle.std.proofs.Common.{true}
use Rattle.host_disk.proofs.OpenFileLemmas.{IsAllBelow}
use Rattle.host_disk.specs.OpenFiles.{unsynced}
use Rattle.host_disk.proofs.open_files.OpenFiles.synced_index.Given as goal

abbrev pub invariant-loop-i : goal.invariant-loop-i
invariant-loop-i l = IsAllBelow (unsynced l.self) true l.i
