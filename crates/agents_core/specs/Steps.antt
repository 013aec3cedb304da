-- Steps of sources and sinks, one after another.
use Rattle.std.specs.Prelude.{◌≡◌, List, [], ◌∷◌}

module _ {S A : Type 0} (steps : S → A → S → Type 0) where
  -- from a state to another by these steps, one after another
  abbrev pub StepsThrough : S → List A → S → Type 0
  StepsThrough old [] new = new ≡ old
  StepsThrough old (x ∷ xs) new = (mid : S) × steps old x mid × StepsThrough mid xs new
