use Rattle.std.proofs.Common.{rules, ◌≡◌, ◌∙◌, ap, refl, ℕ, ℤ, pos, negsuc, ◌<ℤ◌, ◌≤ℤ◌, ◌+◌, ◌*◌, ◌<◌, FitsSigned, w32, w64, to_z, of_z, arith}
use Rattle.std.specs.Prelude.{unsigned_abs}
use Rattle.std.proofs.lemmas.Int.{ints, to_z-of_z}
use Rattle.frame_core.specs.declared.geometry.Geometry.{Geometry}
use Rattle.frame_core.specs.Position.{HasPosition, terms_since}
use Rattle.frame_core.proofs.positions.term_of.Goals as goal

-- a number that is not negative is its size
is_abs : (z : ℤ) → pos 0 ≤ℤ z → z ≡ pos (unsigned_abs z)
is_abs (pos n) low = refl
is_abs (negsuc n) low = absurd (omega (arith, ints))

-- a term and an offset have the position that is reckoned over whole numbers
reckoned : (g : Geometry) (t o p : ℤ) (terms offset : ℕ) → pos 0 <ℤ g.term_length → pos 0 ≤ℤ p → terms_since g t ≡ pos terms → o ≡ pos offset
    → offset < unsigned_abs g.term_length → unsigned_abs p ≡ terms * unsigned_abs g.term_length + offset → HasPosition g t o p
reckoned g t o p terms offset long low since off high sum =
    let size : g.term_length ≡ pos (unsigned_abs g.term_length) = is_abs _ (omega (arith, ints)) in
    record {
      since = omega (arith, ints);
      low = omega (arith, ints);
      high = omega (arith, ints);
      sum = is_abs p low ∙ ap pos sum ∙ rw (since, size, off) refl;
    }

pub returns : goal.returns
returns c =
    let fits : FitsSigned w32 c.args.geometry.now.term_length = search rules in
    let term_fits : FitsSigned w32 c.term_after.result = search rules in
    let here : FitsSigned w64 c.args.position = search rules in
    reckoned
    c.args.geometry.now
    (to_z w32 (of_z w32 c.term_after.result))
    (to_z w32 c.split-terms.result.1)
    c.args.position
    c.split-terms.result.0
    c.split-terms.result.1
    c.requires.length
    c.requires.low
    (simp to_z-of_z (c.term_after.ensures ∙ omega (arith, ints)))
    (omega (arith, ints))
    (simp to_z-of_z at c.split-terms.ensures.offset)
    (simp to_z-of_z at c.split-terms.ensures.whole)
