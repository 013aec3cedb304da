-- Values that are found by their number.
use Rattle.std.proofs.Common.{◌≡◌, ℕ, suc, ℤ, ◌<◌, ◌≤◌, ◌+◌, true, false, List, [], ◌∷◌, ◌++◌, length, take, drop, Some, refl, sym, ap, subst, ◌∙◌, append_assoc, set, get_or, arith}
use Rattle.std.specs.Ordering.{int_eq}
use Rattle.std.proofs.Math.Seq.{take-suc, drop-cons, set-append_seam}
use Rattle.std.proofs.lemmas.List.{take-append-drop, append-nil, length-take-le, take_all}
use Rattle.std.proofs.lemmas.Option.{slice_get-get_or}
use Rattle.archive_model.specs.Keyed.{find, change}
use Rattle.archive_model.specs.Numbered.{IsIndexOf, IsNone}

module _ {X : Type 0} (number : X → ℤ) where
  -- no value of the front has the number
  pub record Skips (n : ℤ) (front : List X) : Type 0 where
    pub found : (rest : List X) → find number n (front ++ rest) ≡ find number n rest
    pub changed : (f : X → X) (rest : List X) → change number n f (front ++ rest) ≡ front ++ change number n f rest

  -- before the first value nothing is skipped
  pub skips-none : (n : ℤ) → Skips n []
  skips-none n = record { found = λ rest. refl; changed = λ f rest. refl }

  -- one more value without the number
  pub skips-more : (n : ℤ) (front : List X) (x : X) → Skips n front → int_eq n (number x) ≡ false → Skips n (front ++ x ∷ [])
  skips-more n front x skips other = record {
    found = λ rest. ap (find number n) (append_assoc front (x ∷ []) rest) ∙ skips.found (x ∷ rest) ∙ (rw other refl);
    changed = λ f rest.
        ap (change number n f) (append_assoc front (x ∷ []) rest) ∙ skips.changed f (x ∷ rest) ∙ (rw other (sym (append_assoc front (x ∷ []) (change number n f rest))));
  }

  -- the next value has no such number
  pub skips_index : (n : ℤ) (xs : List X) (index : ℕ) (x : X) → index < length xs → x ≡ get_or xs index x → int_eq n (number x) ≡ false → Skips n (take index xs) → Skips n (take (index + 1) xs)
  skips_index n xs index x within is other skips =
      let one : index + 1 ≡ suc index = omega arith in
      let next : take (index + 1) xs ≡ take index xs ++ x ∷ [] = ap (λ k. take k xs) one ∙ take-suc xs index x within ∙ ap (λ y. take index xs ++ y ∷ []) (sym is) in
      subst (Skips n) (sym next) (skips-more n (take index xs) x skips other)

  -- the next value has the number
  pub found_index : (n : ℤ) (xs : List X) (index : ℕ) (x : X) → index < length xs → x ≡ get_or xs index x → int_eq n (number x) ≡ true → Skips n (take index xs) → IsIndexOf number n xs index
  found_index n xs index x within is this skips =
      let rest = drop (suc index) xs in
      let front = take index xs in
      let split : xs ≡ front ++ x ∷ rest = sym (take-append-drop index xs) ∙ ap (λ ys. front ++ ys) (drop-cons xs index x within ∙ ap (λ y. y ∷ rest) (sym is)) in
      let before : length front ≡ index = length-take-le index xs (omega arith) in
      record {
        value = x;
        within = within;
        at = slice_get-get_or xs index x within ∙ ap Some (sym is);
        found = ap (find number n) split ∙ skips.found (x ∷ rest) ∙ (rw this refl);
        changed = λ f. ap (change number n f) split ∙ skips.changed f (x ∷ rest) ∙ (rw this (sym (set-append_seam front x rest (f x)))) ∙ ap (λ k. set (front ++ x ∷ rest) k (f x)) before ∙ ap (λ ys. set ys index (f x)) (sym split);
      }

  -- all values are skipped
  pub none_there : (n : ℤ) (xs : List X) (index : ℕ) → length xs ≤ index → Skips n (take index xs) → IsNone number n xs
  none_there n xs index past skips =
      let all : take index xs ++ [] ≡ xs = append-nil (take index xs) ∙ take_all index xs past in
      record {
        found = ap (find number n) (sym all) ∙ skips.found [];
        changed = λ f. ap (change number n f) (sym all) ∙ skips.changed f [] ∙ all;
      }
