use Rattle.std.proofs.Common.{◌≡◌, ◌++◌, take, drop}
use Rattle.std.specs.Prelude.{map}
use Rattle.publication_core.specs.Datagrams.{marked}
use Rattle.publication_core.proofs.lists.mark_each.Given as goal

abbrev pub invariant-loop-index : goal.invariant-loop-index
invariant-loop-index l = (l.sent.items ≡ map (marked l.now l.from l.to) (take l.index l.fn.sent.items) ++ drop l.index l.fn.sent.items) × (l.sent.len ≡ l.fn.sent.len)
