use Rattle.std.proofs.Common.{◌≡◌}
use Rattle.std.specs.Prelude.{vec_len}
use Rattle.server_state.proofs.counts.Counts.new.Given as goal

-- as many are there as rounds are done
abbrev pub invariant-loop : goal.invariant-loop
invariant-loop l = vec_len l.of_images ≡ l.counter
