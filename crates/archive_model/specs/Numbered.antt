-- Where a value of a number stands in a list.
use Rattle.std.specs.Prelude.{◌≡◌, ◌<◌, ℕ, ℤ, List, length, Some, None, slice_get, slice_set}
use Rattle.archive_model.specs.Keyed.{find, change}

module _ {X : Type 0} (number : X → ℤ) where
  -- the value of the number stands at the index
  pub record IsIndexOf (n : ℤ) (xs : List X) (index : ℕ) : Type 0 where
    pub value : X
    pub within : index < length xs
    pub at : slice_get xs index ≡ Some value
    pub found : find number n xs ≡ Some value
    pub changed : (f : X → X) → change number n f xs ≡ slice_set xs index (f value)

  -- no value has the number
  pub record IsNone (n : ℤ) (xs : List X) : Type 0 where
    pub found : find number n xs ≡ None
    pub changed : (f : X → X) → change number n f xs ≡ xs
