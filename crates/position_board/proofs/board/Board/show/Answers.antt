use Rattle.std.proofs.Common.{rules}
use Rattle.position_board.proofs.BoardLemmas.{parts}
use Rattle.position_board.proofs.SeatLemmas.{joins_by, meets_by, joined_is, was_among, was_below}
use Rattle.position_board.proofs.board.Board.show.Goals as goal

pub split_seat-part-requires : goal.split_seat-part-requires
split_seat-part-requires c = (search rules, search rules, parts _ _)

pub join_seat-requires : goal.join_seat-requires
join_seat-requires c = (
  search rules,
  search rules,
  search rules,
  search rules,
  joins_by _ _ _ _ _ _ _ _ _ c.writer.invariant c.reader.invariant c.split_seat-part.ensures.4,
)

pub load-word-requires : goal.load-word-requires
load-word-requires c = (
  search rules,
  search rules,
  meets_by _ _ _ _ _ _ (joined_is _ _ _ _ _ _ _ _ c.writer.invariant c.reader.invariant c.split_seat-part.ensures.4 c.join_seat.ensures.2),
)

pub split_seat-requires : goal.split_seat-requires
split_seat-requires c = (search rules, search rules, parts _ _)

pub returns-clause-was : goal.returns-clause-was
returns-clause-was c = rw (← c.writer.view_is, ← c.reader.view_is)
    (was_among _ _ _ _ _ _ _ _ c.writer.invariant c.reader.invariant c.split_seat-part.ensures.4 c.join_seat.ensures.2 _ _ c.load-word.ensures.2.0)

pub returns-clause-rises : goal.returns-clause-rises
returns-clause-rises c = rw (← c.writer.view_is, ← c.reader.view_is)
    (was_below _ _ _ _ _ _ _ _ c.writer.invariant c.reader.invariant c.split_seat-part.ensures.4 c.join_seat.ensures.2 _ _ c.load-word.ensures.2.0)
