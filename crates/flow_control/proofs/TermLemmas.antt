-- Positions that have a term id.
use Rattle.std.proofs.Common.{◌≡◌, ◌+◌, ◌*◌, ◌<◌, ◌≤◌, ◌^◌, ◌≤ℤ◌, ◌<ℤ◌, ◌+ℤ◌, ◌*ℤ◌, ℕ, ℤ, pos, negsuc, true, FitsSigned, w32, arith}
use Rattle.std.specs.Prelude.{int_lt}
use Rattle.std.proofs.Math.Nat.{mul-le-mul_left}
use Rattle.std.proofs.lemmas.Int.{ints, SFits-int_wrap}
use Rattle.frame_core.specs.declared.geometry.Geometry.{Geometry}
use Rattle.frame_core.specs.Position.{HasPosition, terms_since}
use Rattle.flow_control.specs.Feedback.{has_term}

before_end : (terms offset size : ℤ) (p : ℕ) → FitsSigned w32 terms → pos 0 ≤ℤ terms → pos 0 ≤ℤ offset → offset <ℤ size → pos p ≡ terms *ℤ size +ℤ offset
    → int_lt (pos p) (pos (2 ^ 31) *ℤ size) ≡ true
before_end (negsuc t) offset size p fits low above below sum = absurd (omega (arith, ints, low))
before_end (pos t) (negsuc o) size p fits low above below sum = absurd (omega (arith, ints, above))
before_end (pos t) (pos o) (negsuc s) p fits low above below sum = absurd (omega (arith, ints, below))
before_end (pos t) (pos o) (pos s) p fits low above below sum =
    let few : t + 1 ≤ 2 ^ 31 = omega (arith, ints, fits) in
    let product : s * (t + 1) ≤ s * 2 ^ 31 = mul-le-mul_left s few in
    let less : o < s = omega (arith, ints, below) in
    let is : p ≡ t * s + o = omega (arith, ints, sum) in
    let under : p < 2 ^ 31 * s = omega (arith, product, less, is) in
    grind (arith, under)

pub has_term_before : (g : Geometry) (term_id offset : ℤ) (p : ℕ) → HasPosition g term_id offset (pos p) → has_term g p ≡ true
has_term_before g term_id offset p at = before_end (terms_since g term_id) offset g.term_length p (SFits-int_wrap w32 _) at.since at.low at.high at.sum
