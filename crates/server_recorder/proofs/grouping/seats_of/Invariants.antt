use Rattle.std.proofs.Common.{◌≡◌}
use Rattle.std.specs.Prelude.{filter}
use Rattle.std.specs.List.{range_with_len}
use Rattle.server_recorder.specs.Grouping.{has_seat}
use Rattle.server_recorder.proofs.grouping.seats_of.Given as goal

-- of the seats so far
abbrev pub invariant-loop-seat : goal.invariant-loop-seat
invariant-loop-seat l = l.numbers.items ≡ filter (has_seat l.seats) (range_with_len 0 l.seat)
