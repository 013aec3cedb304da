use Rattle.std.proofs.Common.{◌≡◌}
use Rattle.std.specs.List.{zip}
use Rattle.recorder_seats.specs.Bench.{AreOfBoard, raised_each}
use Rattle.recorder_seats.proofs.bench.raise_each.Given as goal

-- the raisings that are left make of the seats what all of them make
abbrev pub invariant-loop-index : goal.invariant-loop-index
invariant-loop-index l = record {
  raised : raised_each (zip l.index-iterator.a.rest.now l.index-iterator.b.rest.now) l.seats.items ≡ raised_each (zip l.indices l.positions) l.fn.seats.items;
  board : AreOfBoard l.board l.seats.items;
}
