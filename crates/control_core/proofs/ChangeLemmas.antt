-- Values of a list that are changed by their number.
use Rattle.std.proofs.Common.{◌≡◌, ℤ, Bool, true, false, List, [], ◌∷◌, Some, None, refl, sym, ap, ◌∙◌, inl, inr, ◌⊎◌}
use Rattle.std.specs.Ordering.{int_eq}
use Rattle.archive_model.specs.Keyed.{find, change}

-- a test is true or false
test_cases : (t : Bool) → (t ≡ true) ⊎ (t ≡ false)
test_cases true = inl refl
test_cases false = inr refl

module _ {X : Type 0} (number : X → ℤ) where
  find-first : (n : ℤ) (x : X) (xs : List X) (y : X) → int_eq n (number x) ≡ true → find number n (x ∷ xs) ≡ Some y → x ≡ y
  find-first n x xs y this found = let is : Some x ≡ Some y = sym (rw this refl) ∙ found in cc

  find-later : (n : ℤ) (x : X) (xs : List X) → int_eq n (number x) ≡ false → find number n (x ∷ xs) ≡ find number n xs
  find-later n x xs other = rw other refl

  change-first : (n : ℤ) (f : X → X) (x : X) (xs : List X) → int_eq n (number x) ≡ true → change number n f (x ∷ xs) ≡ f x ∷ xs
  change-first n f x xs this = rw this refl

  change-later : (n : ℤ) (f : X → X) (x : X) (xs : List X) → int_eq n (number x) ≡ false → change number n f (x ∷ xs) ≡ x ∷ change number n f xs
  change-later n f x xs other = rw other refl

  -- the value that was changed is found changed, if it keeps its number
  pub find-change : (n : ℤ) (f : X → X) (xs : List X) (x : X) → ((y : X) → number (f y) ≡ number y) → find number n xs ≡ Some x → find number n (change number n f xs) ≡ Some (f x)
  find-change n f [] x keeps found = let no : None ≡ Some x = found in cc
  find-change n f (y ∷ ys) x keeps found =
      elim (test_cases (int_eq n (number y))) [
        | inl this ↦
            let still : int_eq n (number (f y)) ≡ true = ap (int_eq n) (keeps y) ∙ this in
            let same = find-first n y ys x this found in
            ap (find number n) (change-first n f y ys this) ∙ (rw still refl) ∙ ap (λ z. Some (f z)) same
        | inr other ↦
            let later = find-change n f ys x keeps (sym (find-later n y ys other) ∙ found) in
            ap (find number n) (change-later n f y ys other) ∙ find-later n y (change number n f ys) other ∙ later
      ]
