use Rattle.std.proofs.Common.{◌≡◌, ◌≤◌, take}
use Rattle.std.specs.List.{count_by}
use Rattle.server_recorder.proofs.grouping.count.Given as goal

-- of the seats so far
abbrev pub invariant-loop-seat : goal.invariant-loop-seat
invariant-loop-seat l = record {
  count : l.count ≡ count_by (λ is. is) (take l.seat l.seats);
  few : l.count ≤ l.seat;
}
