use Rattle.std.specs.Prelude.{filter}
use Rattle.std.specs.List.{range_with_len}
use Rattle.server_recorder.specs.Grouping.{has_seat}
use Rattle.server_recorder.specs.Settles.{SettlesAlone, SettlesSeats}
use Rattle.server_recorder.proofs.grouping.settle_each.Given as goal

-- those at the seats so far
abbrev pub invariant-loop-seat : goal.invariant-loop-seat
invariant-loop-seat g l = record {
  calls : SettlesAlone g.D.Disk.life g.A.Naming.opening (filter (has_seat l.due) (range_with_len 0 l.seat)) l.fn.settling l.fn.seats l.seats;
  settled : SettlesSeats (filter (has_seat l.due) (range_with_len 0 l.seat)) l.fn.settling l.settling;
}
