use Rattle.std.proofs.Common.{◌≡◌}
use Rattle.plain_book.proofs.CutLemmas.{begun_from}
use Rattle.plain_book.proofs.cut.begun_before.Given as goal

abbrev pub invariant-loop-begun : goal.invariant-loop-begun
invariant-loop-begun l = begun_from l.position l.at l.begun l.frames ≡ begun_from l.position l.start 0 l.frames
