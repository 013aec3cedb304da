use Rattle.std.proofs.Common.{length}
use Rattle.host_disk.specs.OpenFiles.{entries_of, KeepsOtherMarks}
use Rattle.host_disk.proofs.open_files.OpenFiles.close.Given as goal

abbrev pub invariant-loop-index : goal.invariant-loop-index
invariant-loop-index l = KeepsOtherMarks l.file l.initial.self l.self

abbrev pub decreases-loop-index : goal.decreases-loop-index
decreases-loop-index l = length (entries_of l.self)
