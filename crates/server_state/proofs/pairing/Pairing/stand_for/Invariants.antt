use Rattle.std.proofs.Common.{◌≡◌, ◌<◌, ℕ, None}
use Rattle.server_state.specs.Resuming.{seat_stand}
use Rattle.server_state.proofs.pairing.Pairing.stand_for.Given as goal

-- no session of the seats before stands so
abbrev pub invariant-loop-seat : goal.invariant-loop-seat
invariant-loop-seat l = (n : ℕ) → n < l.seat → seat_stand n l.join l.self.pairs ≡ None
