use Rattle.std.proofs.Common.{◌≡◌}
use Rattle.server_recorder.specs.Holes.{holes_below}
use Rattle.server_recorder.proofs.standing_holes.standing_holes.Given as goal

abbrev pub invariant-loop-index : goal.invariant-loop-index
invariant-loop-index l = l.holes ≡ holes_below l.index l.recordings
