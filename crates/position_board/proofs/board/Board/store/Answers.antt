use Rattle.std.proofs.Common.{rules}
use Rattle.position_board.proofs.SeatLemmas.{raises_by, raised_is}
use Rattle.position_board.proofs.board.Board.store.Goals as goal

pub store-requires : goal.store-requires
store-requires c = (search rules, search rules, raises_by _ _ _ _ _ _ _ c.writer.invariant (search rules) c.requires.small)

pub invariant_of-writer : goal.invariant_of-writer
invariant_of-writer c = rw c.store.ensures.0 (raised_is _ _ _ _ _ _ c.writer.invariant (search rules) c.requires.small c.store.ensures.2)
