-- No session of the seats so far stands so.
use Rattle.std.proofs.Common.{rules}
use Rattle.server_state.proofs.ResumingLemmas.{none_before}
use Rattle.server_state.proofs.pairing.Pairing.stand_for.Goals as goal

pub loop-seat-preserved : goal.loop-seat-preserved
loop-seat-preserved c = λ n below. none_before c.args.join.now c.args.self.now.pairs c.loop-seat.seat n c.loop-seat.invariant (search rules) below
