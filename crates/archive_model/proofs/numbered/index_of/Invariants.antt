use Rattle.std.proofs.Common.{take}
use Rattle.archive_model.proofs.NumberedLemmas.{Skips}
use Rattle.archive_model.proofs.numbered.index_of.Given as goal

abbrev pub invariant-loop-index : goal.invariant-loop-index
invariant-loop-index g l = Skips g.T.Numbered.number_of l.number (take l.index l.values)
