-- Seats before which no session stands where a publication may go on.
use Rattle.std.proofs.Common.{◌≡◌, ◌+◌, ◌<◌, ◌≤◌, ℕ, None, sym, subst, arith, ⊎_elim}
use Rattle.std.proofs.Math.Nat.{eq-or-lt_of_le}
use Rattle.stream_pairs.specs.declared.points.StreamPoint.{StreamPoint}
use Rattle.stream_pairs.specs.Pairs.{PairsState}
use Rattle.server_state.specs.Resuming.{seat_stand}

-- nor does one before the next seat
pub none_before : (join : StreamPoint) (s : PairsState) (k n : ℕ) → ((m : ℕ) → m < k → seat_stand m join s ≡ None) → seat_stand k join s ≡ None → n < k + 1 → seat_stand n join s ≡ None
none_before join s k n before here below =
    let most : n ≤ k = omega (arith, below) in
    ⊎_elim (λ (same : n ≡ k). subst (λ (i : ℕ). seat_stand i join s ≡ None) (sym same) here) (λ less. before n less) (eq-or-lt_of_le most)
