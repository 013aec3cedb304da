-- Multiples of 32 from 0, as a test and as a number of units.
use Rattle.std.proofs.Common.{◌≡◌, ◌*◌, ◌/◌, ◌%◌, ℤ, pos, negsuc, true, true≢false, sym, ap, arith}
use Rattle.std.proofs.lemmas.Int.{ints}
use Rattle.std.proofs.lemmas.Bool.Decides.{nat_tests}
use Rattle.frame_core.specs.FrameEncoding.{IsAligned}
use Rattle.archive_model.specs.Descriptor.{is_aligned}

pub aligned_units : (z : ℤ) → is_aligned z ≡ true → IsAligned z
unfolding is_aligned
aligned_units (pos p) is =
    let none : p % 32 ≡ 0 = grind (arith, nat_tests) in
    let whole : p ≡ 32 * (p / 32) = omega (arith, none) in
    (p / 32, ap pos whole)
aligned_units (negsuc p) is = absurd (true≢false (sym is))

pub aligned_of_units : (z : ℤ) → IsAligned z → is_aligned z ≡ true
unfolding is_aligned
aligned_of_units (pos p) of =
    let whole : pos p ≡ pos (32 * of.0) = of.1 in
    let none : p % 32 ≡ 0 = omega (arith, ints, whole) in
    grind (arith, nat_tests)
aligned_of_units (negsuc p) of = let clash : negsuc p ≡ pos (32 * of.0) = of.1 in absurd (omega (arith, ints, clash))
