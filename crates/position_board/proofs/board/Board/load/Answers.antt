use Rattle.std.proofs.Common.{rules}
use Rattle.position_board.proofs.SeatLemmas.{looks_by}
use Rattle.position_board.proofs.board.Board.load.Goals as goal

pub load-requires : goal.load-requires
load-requires c = (search rules, search rules, looks_by _ _ _ _ _ c.reader.invariant (search rules))
