-- Values whose numbers rise, in a list that is kept whole.
use Rattle.std.proofs.Common.{◌≡◌, ◌+ℤ◌, ◌≤ℤ◌, ◌<◌, ℕ, ℤ, pos, Bool, true, false, cond, List, [], ◌∷◌, length, filter, Some, sym, ap, ◌∙◌, arith, get_or, slice_get, slice_set, remove, zero, suc}
use Rattle.std.proofs.lemmas.Option.{slice_get-get_or}
use Rattle.std.proofs.lemmas.Int.{ints}
use Rattle.archive_model.specs.Keyed.{change, without, Rise}
use Rattle.archive_model.specs.Numbered.{IsIndexOf}
use Rattle.archive_model.proofs.RegisterLemmas.{without_at, found_number}

module _ {X : Type 0} (number : X → ℤ) where
  rise_lower : (low least next : ℤ) (xs : List X) → least ≤ℤ low → Rise number low xs next → Rise number least xs next
  rise_lower low least next [] lower rising = omega (arith, ints)
  rise_lower low least next (y ∷ ys) lower rising = (omega (arith, ints, rising.0), rising.1)

  -- those that are kept rise
  pub rise_filter : (test : X → Bool) (low next : ℤ) (xs : List X) → Rise number low xs next → Rise number low (filter test xs) next
  rise_filter test low next [] rising = rising
  rise_filter test low next (x ∷ xs) rising = by (test x) (rise_filter test (number x +ℤ pos 1) next xs rising.1)
    where
      by : (b : Bool) → Rise number (number x +ℤ pos 1) (filter test xs) next → Rise number low (cond b (x ∷ filter test xs) (filter test xs)) next
      by true rest = (rising.0, rest)
      by false rest = rise_lower (number x +ℤ pos 1) low next (filter test xs) (omega (arith, ints, rising.0)) rest

  -- to write the changed value at the index of a number is to change the value of the number
  pub set_is_change : (n : ℤ) (xs : List X) (index : ℕ) (f : X → X) (x new : X) → IsIndexOf number n xs index → x ≡ get_or xs index x → new ≡ f x → slice_set xs index new ≡ change number n f xs
  set_is_change n xs index f x new placed gets is =
      let there : slice_get xs index ≡ Some x = slice_get-get_or xs index x placed.within ∙ ap Some (sym gets) in
      let same : Some x ≡ Some placed.value = sym there ∙ placed.at in
      let made : new ≡ f placed.value = cc in
      ap (slice_set xs index) made ∙ sym (placed.changed f)

  -- to remove at the index of a number is to be without the value of the number
  pub remove_is_without : (next n : ℤ) (xs : List X) (index : ℕ) → Rise number (pos 0) xs next → IsIndexOf number n xs index → remove xs index ≡ without number n xs
  remove_is_without next n xs index rising placed = sym (without_at number (pos 0) next n xs index placed.value rising placed.at (found_number number n xs placed.value placed.found))

-- the value at an index, by whatever default
pub get_or_same : {X : Type 0} (xs : List X) (i : ℕ) (d x : X) → i < length xs → x ≡ get_or xs i d → x ≡ get_or xs i x
get_or_same [] i d x within is = absurd (omega arith)
get_or_same (y ∷ ys) zero d x within is = is
get_or_same (y ∷ ys) (suc i) d x within is = get_or_same ys i d x (omega arith) is
