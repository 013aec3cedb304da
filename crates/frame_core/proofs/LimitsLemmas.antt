-- Term lengths as powers of two.
use Rattle.std.proofs.Common.{◌≡◌, sym, ap, subst, refl, ℕ, zero, suc, ℤ, pos, negsuc, ◌*◌, ◌/◌, ◌%◌, ◌^◌, ◌≤◌, true≢false, arith}
use Rattle.std.proofs.Math.Nat.{pow-suc}
use Rattle.std.proofs.lemmas.Nat.{zero_from_ones, ones_le_self, pow_below}
use Rattle.std.proofs.Math.Pow.{pow_mono}
use Rattle.std.specs.Prelude.{Bool, true, false, count_ones, nat_lt}
use Rattle.frame_core.specs.Limits.{is_term_length}
use lib.Count.{ones_step}

-- a number of one bit is a power of two, where its half is one if that has one bit
of_half : (n rest : ℕ) → n % 2 ≡ rest → count_ones n ≡ 1 → (count_ones (n / 2) ≡ 1 → (k : ℕ) × (n / 2 ≡ 2 ^ k)) → (k : ℕ) × (n ≡ 2 ^ k)
of_half n zero is one by_half =
    let found = by_half (omega (arith, ones_step n)) in
    (suc found.0, omega (arith, found.1, pow-suc 2 found.0))
of_half n (suc rest) is one by_half = (0, omega (arith, zero_from_ones (n / 2) (omega (arith, ones_step n))))

-- a number with one bit set is a power of two
one_bit : (d n : ℕ) → n ≤ d → count_ones n ≡ 1 → (k : ℕ) × (n ≡ 2 ^ k)
one_bit zero n small one = absurd (omega (arith, one, ones_le_self n))
one_bit (suc d) n small one = of_half n (n % 2) refl one (one_bit d (n / 2) (omega arith))

-- and a power of two has one bit set
one_bit_of : (k : ℕ) → count_ones (2 ^ k) ≡ 1
one_bit_of zero = omega (arith, ones_step 1, ones_le_self 0)
one_bit_of (suc k) =
    let double : 2 ^ suc k ≡ 2 ^ k * 2 = pow-suc 2 k in
    let half : 2 ^ suc k / 2 ≡ 2 ^ k = omega (arith, double) in
    let rest : 2 ^ suc k % 2 ≡ 0 = omega (arith, double) in
    omega (arith, ones_step (2 ^ suc k), ap count_ones half, rest, one_bit_of k)

-- powers of two are ordered as their exponents
pub exponent_le : (j k : ℕ) → 2 ^ j ≤ 2 ^ k → j ≤ k
exponent_le j k powers = by_order j k powers (nat_lt k j) refl
  where
    by_order : (j k : ℕ) → 2 ^ j ≤ 2 ^ k → (b : Bool) → nat_lt k j ≡ b → j ≤ k
    by_order j k powers true is = absurd (omega (arith, pow_below k j (grind arith)))
    by_order j k powers false is = grind arith

-- a power of two in the limits is one from 2^16 to 2^30
in_limits : (n k : ℕ) → 65536 ≤ n → n ≤ 1073741824 → n ≡ 2 ^ k → (k : ℕ) × (16 ≤ k) × (k ≤ 30) × (pos n ≡ pos (2 ^ k))
in_limits n k low high is = (k, exponent_le 16 k (subst (λ (m : ℕ). 65536 ≤ m) is low), exponent_le k 30 (subst (λ (m : ℕ). m ≤ 1073741824) is high), ap pos is)

-- a term length is such a one
pub is_power : (z : ℤ) → is_term_length z ≡ true → (k : ℕ) × (16 ≤ k) × (k ≤ 30) × (z ≡ pos (2 ^ k))
unfolding is_term_length
is_power (negsuc n) is = absurd (true≢false (sym is))
is_power (pos n) is =
    let found = one_bit n n (omega arith) (grind (arith, is)) in in_limits n found.0 (grind (arith, is)) (grind (arith, is)) found.1

-- and each of these is one
pub power_is : (z : ℤ) (k : ℕ) → 16 ≤ k → k ≤ 30 → z ≡ pos (2 ^ k) → is_term_length z ≡ true
unfolding is_term_length
power_is z k low high is =
    let least : 2 ^ 16 ≤ 2 ^ k = pow_mono low in
    let most : 2 ^ k ≤ 2 ^ 30 = pow_mono high in
    rw (is, one_bit_of k) (grind (arith, least, most))
