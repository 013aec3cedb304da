use Rattle.std.proofs.Common.{◌≡◌}
use Rattle.stream_pairs.specs.Pairs.{pair_first}
use Rattle.stream_pairs.proofs.pairs.Pairs.pair_all.Given as goal

abbrev pub invariant-loop-place : goal.invariant-loop-place
invariant-loop-place l = l.self ≡ pair_first l.place l.fn.self
