use mathlib.Core.HLevel.{×_prop, Unit-prop}
use Rattle.std.specs.Prelude.{List, [], ◌∷◌}
use Rattle.archive_model.specs.Keyed.{Each}

-- a fact of each value of a list has one proof at most, if it has of one value
pub each_prop : {X : Type 0} (P : X → Type 0) → ((x : X) → IsProp (P x)) → (xs : List X) → IsProp (Each P xs)
each_prop P p [] = Unit-prop
each_prop P p (x ∷ xs) = ×_prop (p x) (each_prop P p xs)
