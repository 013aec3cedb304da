use Rattle.std.proofs.Common.{◌≡◌, length, take}
use Rattle.std.specs.Prelude.{map}
use Rattle.std.specs.List.{range_with_len}
use Rattle.server_recorder.specs.Grouping.{is_due_at}
use Rattle.server_recorder.proofs.grouping.due_seats.Given as goal

-- of the seats so far
abbrev pub invariant-loop-seat : goal.invariant-loop-seat
invariant-loop-seat l = record {
  long : length l.due ≡ 64;
  due : take l.seat l.due ≡ map (is_due_at l.block_waits l.taken l.settling) (range_with_len 0 l.seat);
}
