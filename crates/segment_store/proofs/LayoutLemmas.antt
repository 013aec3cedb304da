-- Where positions lie in segment files.
use Rattle.std.proofs.Common.{◌≡◌, ◌∙◌, sym, ap, subst, ℕ, ℤ, pos, negsuc, ◌+◌, ◌-◌, ◌*◌, ◌%◌, ◌^◌, ◌<◌, ◌≤◌, ◌≤ℤ◌, true, arith}
use Rattle.std.proofs.lemmas.Int.{ints}
use Rattle.std.proofs.lemmas.Nat.{pow_pos}
use Rattle.std.specs.Prelude.{unsigned_abs}
use Rattle.frame_core.specs.Limits.{is_term_length}
use Rattle.frame_core.proofs.LimitsLemmas.{is_power, exponent_le}
use Rattle.frame_core.proofs.SegmentLemmas.{same_segment, base_between}
use Rattle.segment_store.specs.declared.layout.Layout.{Layout}
use Rattle.segment_store.specs.Layout.{IsLayout, base_of}

-- a length in the limits is at least one byte
pub length_positive : (length : ℤ) → is_term_length length ≡ true → 0 < unsigned_abs length
length_positive length is =
    let power = is_power length is in
    subst (λ (n : ℕ). 0 < n) (sym (ap unsigned_abs power.3)) (pow_pos power.0)

-- a term has bytes
pub term_positive : (l : Layout) → IsLayout l → 0 < unsigned_abs l.term_length
term_positive l layout = length_positive l.term_length layout.term

-- a segment has bytes
pub segment_positive : (l : Layout) → IsLayout l → 0 < unsigned_abs l.segment_length
segment_positive l layout = length_positive l.segment_length layout.segment

-- a segment begins at the position or before it
pub base_before : (l : Layout) (p : ℕ) → base_of l p ≤ p
unfolding base_of
base_before l p = omega arith

-- what lies behind a position in its own term has its base
pub same_base : (l : Layout) (p d : ℕ) → IsLayout l → unsigned_abs l.start_position ≤ p → p % unsigned_abs l.term_length + d < unsigned_abs l.term_length
    → base_of l (p + d) ≡ base_of l p
unfolding base_of
same_base l p d layout from inside =
    let term = is_power l.term_length layout.term in
    let segment = is_power l.segment_length layout.segment in
    let k : ℕ = term.0 in
    let term_is : unsigned_abs l.term_length ≡ 2 ^ k = ap unsigned_abs term.3 in
    let segment_is : unsigned_abs l.segment_length ≡ 2 ^ segment.0 = ap unsigned_abs segment.3 in
    let no_less : 2 ^ k ≤ 2 ^ segment.0 = omega (arith, ints, layout.no_less, term.3, segment.3) in
    let exponents : k ≤ segment.0 = exponent_le k segment.0 no_less in
    let segment_as : unsigned_abs l.segment_length ≡ 2 ^ (segment.0 - k + k) = segment_is ∙ ap (λ (n : ℕ). 2 ^ n) (omega (arith, exponents)) in
    let within : p % 2 ^ k + d < 2 ^ k = subst (λ (n : ℕ). p % n + d < n) term_is inside in
    rw (term_is, segment_as) (same_segment (unsigned_abs l.start_position) (segment.0 - k) k p d from within)

-- what lies between a base and a position of its segment, from the start on, has that base too
pub same_base_between : (l : Layout) (p q : ℕ) → IsLayout l → unsigned_abs l.start_position ≤ q → q ≤ p → base_of l p ≤ q → base_of l q ≡ base_of l p
unfolding base_of
same_base_between l p q layout from before behind =
    base_between (unsigned_abs l.start_position) (unsigned_abs l.term_length) (unsigned_abs l.segment_length) p q (segment_positive l layout) from before behind

-- a position from the start on is no lower as a natural number
pub start_before : (l : Layout) (position : ℤ) → IsLayout l → l.start_position ≤ℤ position → unsigned_abs l.start_position ≤ unsigned_abs position
start_before l position layout from = by_sign l.start_position position (32 * layout.start) layout.start_is from
  where
    by_sign : (s p : ℤ) (n : ℕ) → s ≡ pos n → s ≤ℤ p → unsigned_abs s ≤ unsigned_abs p
    by_sign (pos m) (pos p) n is from = omega (arith, ints, from)
    by_sign (pos m) (negsuc p) n is from = absurd (omega (arith, ints, from))
    by_sign (negsuc m) p n is from = absurd (cc)
