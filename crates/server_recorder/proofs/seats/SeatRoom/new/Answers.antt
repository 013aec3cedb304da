-- A board for the seats is refused for want of memory alone.
use Rattle.std.proofs.Common.{◌≡◌, rules}
use Rattle.frame_core.specs.declared.refusal.Refusal.TheVariants.{NoMemory}
use Rattle.server_recorder.proofs.SeatLemmas.{refuses_memory}
use Rattle.server_recorder.proofs.seats.SeatRoom.new.Goals as goal

pub returns-in_err-board : goal.returns-in_err-board
returns-in_err-board c =
    let memory : c.in_err-board.field-0.0 ≡ NoMemory = refuses_memory c.in_err-board.field-0.0 c.in_err-board.ensures.refused in
    search rules
