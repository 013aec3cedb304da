use Rattle.std.proofs.Common.{take}
use Rattle.disk_core.specs.Memory.{AreFilled}
use Rattle.disk_core.proofs.memory_file.fill_ranges.Given as goal

abbrev pub invariant-loop-at : goal.invariant-loop-at
invariant-loop-at l = AreFilled (take l.at-index l.ranges) l.byte l.initial.bytes l.bytes
