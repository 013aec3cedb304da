use Rattle.std.proofs.Common.{◌≡◌, take}
use Rattle.server_recorder.specs.Settles.{seated_each}
use Rattle.server_recorder.proofs.grouping.seat_each.Given as goal

-- the seats so far
abbrev pub invariant-loop-seat : goal.invariant-loop-seat
invariant-loop-seat g l = l.seats ≡ seated_each l.settling (take l.seat-index l.group) l.fn.seats
