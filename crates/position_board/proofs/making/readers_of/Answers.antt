use Rattle.std.proofs.Common.{rules}
use Rattle.position_board.proofs.SeatLemmas.{makes_reader_by}
use Rattle.position_board.proofs.making.readers_of.Goals as goal

pub split_seat-own-requires : goal.split_seat-own-requires
split_seat-own-requires c = (search rules, search rules, rw c.loop.invariant.1 (makes_reader_by _ _ _ c.requires.seat))
