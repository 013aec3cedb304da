-- Lists of values that have numbers: a finite map, by rising number.
use Rattle.std.specs.Prelude.{◌+ℤ◌, ◌≤ℤ◌, ℤ, pos, List, [], ◌∷◌, Option, Some, None, if◌then◌else◌}
use Rattle.std.specs.Ordering.{int_eq}

module _ {X : Type 0} (number : X → ℤ) where
  -- the value of a number
  abbrev pub find : ℤ → List X → Option X
  find n [] = None
  find n (x ∷ xs) = if int_eq n (number x) then Some x else find n xs

  -- the value of a number is changed, the others are as they were
  abbrev pub change : ℤ → (X → X) → List X → List X
  change n f [] = []
  change n f (x ∷ xs) = if int_eq n (number x) then f x ∷ xs else x ∷ change n f xs

  -- the value of a number is gone, the others are as they were
  abbrev pub without : ℤ → List X → List X
  without n [] = []
  without n (x ∷ xs) = if int_eq n (number x) then xs else x ∷ without n xs

  -- numbers rise from one on, and are below another
  abbrev pub Rise : ℤ → List X → ℤ → Type 0
  Rise low [] high = low ≤ℤ high
  Rise low (x ∷ xs) high = (low ≤ℤ number x) × Rise (number x +ℤ pos 1) xs high

-- each value of a list has P
abbrev pub Each : {X : Type 0} → (X → Type 0) → List X → Type 0
Each P [] = Unit {0}
Each P (x ∷ xs) = P x × Each P xs
