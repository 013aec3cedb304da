use Rattle.std.proofs.Common.{map, take}
use Rattle.command_line.specs.CommandLine.{AreNumbers}
use Rattle.command_line.proofs.serving.numbers_of.Given as goal

abbrev pub invariant-loop-index : goal.invariant-loop-index
invariant-loop-index l = AreNumbers (map (λ text. text.now) (take l.index l.texts)) l.numbers.items
