use Rattle.std.proofs.Common.{◌≡◌, ◌<◌, ℕ, None}
use Rattle.server_state.specs.Noting.{unreported_misfit}
use Rattle.server_state.proofs.pairing.Pairing.next_misfit.Given as goal

-- nothing is left to report of the sessions before
abbrev pub invariant-loop-seat : goal.invariant-loop-seat
invariant-loop-seat l = (l.self ≡ l.fn.self) × ((n : ℕ) → n < l.seat → unreported_misfit n l.self.pairs l.self.misfits ≡ None)
