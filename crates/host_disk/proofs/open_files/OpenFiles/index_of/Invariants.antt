use Rattle.host_disk.proofs.OpenFileLemmas.{IsNoneBelow}
use Rattle.host_disk.specs.OpenFiles.{held}
use Rattle.host_disk.proofs.open_files.OpenFiles.index_of.Given as goal

abbrev pub invariant-loop-i : goal.invariant-loop-i
invariant-loop-i l = IsNoneBelow (held l.self) l.file l.i
