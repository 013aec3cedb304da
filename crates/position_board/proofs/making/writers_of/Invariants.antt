use Rattle.std.proofs.Common.{◌≡◌, pos, map, take, []}
use Rattle.position_board.specs.Positions.{new_writers}
use Rattle.position_board.specs.Rule.{making}
use Rattle.position_board.proofs.making.writers_of.Given as goal

abbrev pub invariant-loop-slot : goal.invariant-loop-slot
invariant-loop-slot l = (l.seat.table_id ≡ l.fn.seat.table_id) × (l.seat.me ≡ (making l.slot (map pos l.words), []))
    × (l.writers.items ≡ new_writers l.table.shared.table_id 0 (take l.slot (map pos l.words)))
