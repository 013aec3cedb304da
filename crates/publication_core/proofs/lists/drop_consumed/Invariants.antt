use Rattle.std.proofs.Common.{◌≡◌}
use Rattle.publication_core.specs.Datagrams.{unconsumed}
use Rattle.publication_core.proofs.lists.drop_consumed.Given as goal

abbrev pub invariant-loop-sent : goal.invariant-loop-sent
invariant-loop-sent l = unconsumed l.consumed l.sent.items ≡ unconsumed l.consumed l.fn.sent.items

abbrev pub decreases-loop-sent : goal.decreases-loop-sent
decreases-loop-sent l = l.sent.len
