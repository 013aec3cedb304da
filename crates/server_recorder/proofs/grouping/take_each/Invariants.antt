use Rattle.std.proofs.Common.{◌≡◌, take}
use Rattle.server_recorder.specs.Settles.{settled_seats}
use Rattle.server_recorder.proofs.grouping.take_each.Given as goal

-- those at the seats so far
abbrev pub invariant-loop-seat : goal.invariant-loop-seat
invariant-loop-seat l = l.settling ≡ settled_seats (take l.seat-index l.group) l.fn.settling
