use Rattle.std.proofs.Common.{◌≡◌}
use Rattle.position_board.specs.Positions.{new_readers}
use Rattle.position_board.specs.Rule.{starts_of}
use Rattle.position_board.proofs.making.readers_of.Given as goal

abbrev pub invariant-loop : goal.invariant-loop
invariant-loop l = (l.seat.table_id ≡ l.fn.seat.table_id) × (l.seat.me ≡ l.fn.seat.me)
    × (l.readers.items ≡ new_readers l.table.shared.table_id l.counter (starts_of l.fn.seat.me.0))
