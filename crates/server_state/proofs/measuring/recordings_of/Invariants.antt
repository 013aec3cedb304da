use Rattle.std.proofs.Common.{◌≡◌}
use Rattle.server_state.specs.Measuring.{recordings_below}
use Rattle.server_state.proofs.measuring.recordings_of.Given as goal

abbrev pub invariant-loop-seat : goal.invariant-loop-seat
invariant-loop-seat l = l.measures.items ≡ recordings_below l.seat l.pairs
