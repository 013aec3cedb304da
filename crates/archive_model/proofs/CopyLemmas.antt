-- Numbers that rise, up to a number further on.
use Rattle.std.proofs.Common.{◌≤ℤ◌, ◌+ℤ◌, ℤ, pos, List, [], ◌∷◌, arith}
use Rattle.std.proofs.lemmas.Int.{ints}
use Rattle.archive_model.specs.Keyed.{Rise}

module _ {X : Type 0} (number : X → ℤ) where
  pub rise_more : (low high more : ℤ) (xs : List X) → Rise number low xs high → high ≤ℤ more → Rise number low xs more
  rise_more low high more [] rising further = omega (arith, ints, rising, further)
  rise_more low high more (x ∷ xs) rising further = (rising.0, rise_more (number x +ℤ pos 1) high more xs rising.1 further)

  pub rise_le : (low high : ℤ) (xs : List X) → Rise number low xs high → low ≤ℤ high
  rise_le low high [] rising = rising
  rise_le low high (x ∷ xs) rising = let rest = rise_le (number x +ℤ pos 1) high xs rising.1 in omega (arith, ints, rising.0, rest)
