use Rattle.std.proofs.Common.{◌≡◌, length, take}
use Rattle.std.specs.Prelude.{map}
use Rattle.std.specs.List.{range_with_len}
use Rattle.server_recorder.specs.Grouping.{near_or_due}
use Rattle.server_recorder.proofs.grouping.with_near.Given as goal

-- of the seats so far
abbrev pub invariant-loop-seat : goal.invariant-loop-seat
invariant-loop-seat l = record {
  long : length l.near ≡ 64;
  near : take l.seat l.near ≡ map (near_or_due l.settling l.due) (range_with_len 0 l.seat);
}
