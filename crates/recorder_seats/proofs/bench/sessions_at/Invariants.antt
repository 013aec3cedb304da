use Rattle.std.proofs.Common.{◌≡◌, take}
use Rattle.recorder_seats.specs.Bench.{sessions_at}
use Rattle.recorder_seats.proofs.bench.sessions_at.Given as goal

-- of the seats so far
abbrev pub invariant-loop-index : goal.invariant-loop-index
invariant-loop-index l = l.sessions ≡ sessions_at (take l.index-index l.indices) l.seats
