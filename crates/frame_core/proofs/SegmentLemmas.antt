-- Segments hold whole terms.
use Rattle.std.proofs.Common.{◌≡◌, ◌∙◌, ap, ap₂, ℕ, ◌+◌, ◌-◌, ◌*◌, ◌/◌, ◌%◌, ◌^◌, ◌<◌, ◌≤◌, arith}
use Rattle.std.proofs.Math.Nat.{add-mul-mod_self_right, mod-lt}
use Rattle.std.proofs.lemmas.Nat.{mod-pow-add, mod-mul-add, div-mul-add, div-add-mod'}
use Rattle.frame_core.specs.Segment.{first_base, segment_base}

-- a number and a larger one of the same multiple
module _ (x d w : ℕ) (inside : x % w + d < w) where
  sum_is : x + d ≡ x / w * w + (x % w + d)
  sum_is = omega (arith, div-add-mod' x w)

  pub same_part : (x + d) % w ≡ x % w + d
  same_part = ap (λ (n : ℕ). n % w) sum_is ∙ mod-mul-add (x / w) w (x % w + d) inside

  same_whole : (x + d) / w ≡ x / w
  same_whole = ap (λ (n : ℕ). n / w) sum_is ∙ div-mul-add (x / w) w (x % w + d) inside

-- the same of a multiple of it that is a power of two
same_multiple : (x d j k : ℕ) → x % 2 ^ k + d < 2 ^ k → (x + d) % 2 ^ (j + k) ≡ x % 2 ^ (j + k) + d
same_multiple x d j k inside =
    let whole = same_whole x d (2 ^ k) inside in
    let part = same_part x d (2 ^ k) inside in
    let before = mod-pow-add x j k in
    let after : (x + d) % 2 ^ (j + k) ≡ (x / 2 ^ k % 2 ^ j) * 2 ^ k + (x % 2 ^ k + d) =
    mod-pow-add (x + d) j k ∙ ap₂ (λ (q r : ℕ). (q % 2 ^ j) * 2 ^ k + r) whole part in
    omega (arith, before, after)

-- the first base lies a whole number of terms into the stream, at the start or before it
first_is : (start w : ℕ) → first_base start w ≡ start / w * w
first_is start w = omega (arith, div-add-mod' start w)

-- what lies behind a position in its own term lies in the same segment
pub same_segment : (start j k p d : ℕ) → start ≤ p → p % 2 ^ k + d < 2 ^ k
    → segment_base start (2 ^ k) (2 ^ (j + k)) (p + d) ≡ segment_base start (2 ^ k) (2 ^ (j + k)) p
same_segment start j k p d from inside =
    let first : ℕ = first_base start (2 ^ k) in
    let low : first ≤ p = omega (arith, from) in
    let x : ℕ = p - first in
    let p_is : p ≡ x + start / 2 ^ k * 2 ^ k = omega (arith, low, first_is start (2 ^ k)) in
    let rest : p % 2 ^ k ≡ x % 2 ^ k = ap (λ (n : ℕ). n % 2 ^ k) p_is ∙ add-mul-mod_self_right x (start / 2 ^ k) (2 ^ k) in
    let later : p + d - first ≡ x + d = omega (arith, low) in
    let part : (p + d - first) % 2 ^ (j + k) ≡ x % 2 ^ (j + k) + d =
    ap (λ (n : ℕ). n % 2 ^ (j + k)) later ∙ same_multiple x d j k (omega (arith, inside, rest)) in
    omega (arith, part)

-- what lies between a base and a position of its segment, from the start on, has that base too
pub base_between : (start w s p q : ℕ) → 0 < s → start ≤ q → q ≤ p → segment_base start w s p ≤ q → segment_base start w s q ≡ segment_base start w s p
base_between start w s p q some from before behind =
    let first : ℕ = first_base start w in
    let x : ℕ = p - first in
    let low : first ≤ q = omega (arith, from) in
    let whole = div-add-mod' x s in
    let small = mod-lt x some in
    let d : ℕ = q - first - x / s * s in
    let part : q - first ≡ x / s * s + d = omega (arith, whole, low, behind, before) in
    let rest : (q - first) % s ≡ d = ap (λ (n : ℕ). n % s) part ∙ mod-mul-add (x / s) s d (omega (arith, whole, small, before, low, behind)) in
    omega (arith, rest, whole, part, low, behind, before)

-- a segment begins at the first base or behind it
pub base_from_first : (start w s p : ℕ) → start ≤ p → segment_base start w s p ≤ p
base_from_first start w s p from = omega arith
