-- Where an image begins.
use Rattle.std.proofs.Common.{rules, ◌≡◌, ◌*◌, ◌<◌, ◌≤◌, ◌^◌, ◌≤ℤ◌, ◌<ℤ◌, ◌+ℤ◌, ◌*ℤ◌, ℤ, pos, negsuc, true, FitsSigned, w32, arith}
use Rattle.std.specs.Prelude.{unsigned_abs}
use Rattle.std.proofs.lemmas.Int.{ints, wraps}
use Rattle.std.proofs.lemmas.Nat.{mul-add-lt}
use Rattle.frame_core.specs.declared.setup.Setup.{Setup}
use Rattle.frame_core.specs.Limits.{is_mtu, is_term_length}
use Rattle.frame_core.specs.Position.{terms_since}
use Rattle.frame_core.specs.Setup.{HasJoinPosition, geometry_of}
use Rattle.image_core.specs.Kept.{HasTerms}

terms_of : (z : ℤ) → is_term_length z ≡ true → (pos 65536 ≤ℤ z) × (z ≤ℤ pos 1073741824)
unfolding is_term_length
terms_of (pos n) is = grind (arith, ints)
terms_of (negsuc n) is = absurd cc

mtu_of : (z : ℤ) → is_mtu z ≡ true → z ≤ℤ pos 65504
unfolding is_mtu
mtu_of (pos n) is = grind (arith, ints)
mtu_of (negsuc n) is = absurd cc

pub joined_terms : (s : Setup) (p : ℤ) → HasJoinPosition s p → HasTerms (geometry_of s)
joined_terms s p joins = let is = terms_of s.term_length joins.term_length in record { least = is.0; most = is.1; mtu = mtu_of s.mtu joins.mtu }

-- a term and an offset lie below the end of the last term
below : (terms offset size p : ℤ) → pos 0 ≤ℤ terms → terms <ℤ pos 2147483648 → pos 0 ≤ℤ offset → offset <ℤ size → p ≡ terms *ℤ size +ℤ offset → unsigned_abs p < 2 ^ 31 * unsigned_abs size
below (pos t) (pos o) (pos w) p since few low high sum =
    let less = mul-add-lt t w o 2147483648 (omega (arith, ints)) (omega (arith, ints)) in
    rw sum (omega (arith, less))
below (negsuc t) offset size p since few low high sum = absurd (omega (arith, ints, since))
below (pos t) (negsuc o) size p since few low high sum = absurd (omega (arith, ints, low))
below (pos t) (pos o) (negsuc w) p since few low high sum = absurd (omega (arith, ints, high))

-- a join position is a whole number inside the stream
pub record IsInside (s : Setup) (p : ℤ) : Type 0 where
  pub below : unsigned_abs p ≤ 2 ^ 31 * unsigned_abs s.term_length
  pub joins : HasJoinPosition s (pos (unsigned_abs p))

pub joined : (s : Setup) (p : ℤ) → HasJoinPosition s p → pos 0 ≤ℤ p → IsInside s p
joined s p joins low =
    let fits : FitsSigned w32 (terms_since (geometry_of s) s.active_term_id) = search (rules, wraps) in
    let sum = joins.joins in
    let less = below (terms_since (geometry_of s) s.active_term_id) s.term_offset s.term_length p sum.since (omega (arith, ints)) sum.low sum.high sum.sum in
    let is : pos (unsigned_abs p) ≡ p = omega (arith, ints, low) in
    record { below = omega (arith, less); joins = rw is joins }
