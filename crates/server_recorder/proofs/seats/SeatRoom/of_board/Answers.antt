-- The writers of a new board have raised nothing.
use Rattle.server_recorder.proofs.SeatLemmas.{new_are_new}
use Rattle.server_recorder.proofs.seats.SeatRoom.of_board.Goals as goal

pub seats_of-seats-requires-clause-writers : goal.seats_of-seats-requires-clause-writers
seats_of-seats-requires-clause-writers c = new_are_new c.args.board c.args.starts.now c.args.writers.items c.requires.writers
