-- Indexes of open files.
use Rattle.std.proofs.Common.{◌≡◌, ◌≢◌, ℕ, zero, suc, ◌+◌, ◌-◌, ◌<◌, ◌≤◌, List, [], ◌∷◌, ◌++◌, Some, map, length, get_or, slice_get, slice_set, remove, option_map, Contains, ◌⊎◌, inl, inr, sym, ap, ◌∙◌, subst, refl, arith, length-append}
use Rattle.std.proofs.lemmas.List.{length-map, get_or_push, length-set, get_or-set_same, get_or-set_other}
use Rattle.std.proofs.lemmas.Bool.{cases_eq, cases_lt}
use Rattle.std.proofs.lemmas.Option.{slice_get-map, slice_get_read, slice_get-get_or, slice_get_within, get_or_from_slice_get}
use Rattle.std.proofs.lemmas.List.Edits.{length-remove, get_or-remove_below, get_or-remove_above}

-- no index below this one has the value
abbrev pub IsNoneBelow : {X : Type 0} → List X → X → ℕ → Type 0
IsNoneBelow values value count = (k : ℕ) → k < count → slice_get values k ≢ Some value

-- each index below this one has the value
abbrev pub IsAllBelow : {X : Type 0} → List X → X → ℕ → Type 0
IsAllBelow values value count = (k : ℕ) → k < count → slice_get values k ≡ Some value

module _ {X : Type 0} where
  pub none_more : (values : List X) (value : X) (i : ℕ) → IsNoneBelow values value i → slice_get values i ≢ Some value → IsNoneBelow values value (i + 1)
  none_more values value i none here k below = elim (cases_eq k i) [
    | inl is ↦ λ found. here (subst (λ (n : ℕ). slice_get values n ≡ Some value) is found)
    | inr not ↦ none k (omega arith)
  ]

  pub all_more : (values : List X) (value : X) (i : ℕ) → IsAllBelow values value i → slice_get values i ≡ Some value → IsAllBelow values value (i + 1)
  all_more values value i all here k below = elim (cases_eq k i) [
    | inl is ↦ subst (λ (n : ℕ). slice_get values n ≡ Some value) (sym is) here
    | inr not ↦ all k (omega arith)
  ]

  -- a value that is at no index is not in the list
  pub none_in : (values : List X) (value : X) (count : ℕ) → IsNoneBelow values value count → length values ≤ count → Contains values value → ⊥
  none_in values value count none all contains = none contains.0 (omega (arith, contains.1)) (slice_get_read values (length values) contains.0 value refl contains.1 (sym contains.2))

  -- each item of the list has the value
  pub all_in : (values : List X) (value : X) (count k : ℕ) (other : X) → IsAllBelow values value count → k < count → get_or values k other ≡ value
  all_in values value count k other all below = get_or_from_slice_get values k value other (all k below)

  -- a value that is not the one at an index stays where that one is removed
  pub stays_removed : (values : List X) (i : ℕ) (value : X) → i < length values → get_or values i value ≢ value → Contains values value → Contains (remove values i) value
  stays_removed values i value within other contains = elim (cases_lt contains.0 i) [
    | inl below ↦ (contains.0, omega (arith, length-remove values i within, contains.1), get_or-remove_below values i value contains.0 below within ∙ contains.2)
    | inr above ↦
        let past : i < contains.0 = elim (cases_eq contains.0 i) [
          | inl is ↦ absurd (other (subst (λ (n : ℕ). get_or values n value ≡ value) is contains.2))
          | inr not ↦ omega arith
        ] in (
          contains.0 - 1,
          omega (arith, length-remove values i within, contains.1),
          get_or-remove_above values i value (contains.0 - 1) (omega arith) within ∙ ap (λ (n : ℕ). get_or values n value) (omega arith) ∙ contains.2,
        )
  ]

-- what was set at an index stands there
pub set_shows : {X : Type 0} (values : List X) (i : ℕ) (value : X) → i < length values → slice_get (slice_set values i value) i ≡ Some value
set_shows [] i value inside = absurd (omega arith)
set_shows (one ∷ rest) zero value inside = refl
set_shows (one ∷ rest) (suc i) value inside = set_shows rest i value (omega arith)

-- what an index shows of its item
pub shown_of_map : {X Y : Type 0} (f : X → Y) (items : List X) (i : ℕ) (item : X) → i < length items → item ≡ get_or items i item → slice_get (map f items) i ≡ Some (f item)
shown_of_map f items i item within is = slice_get-map f items i ∙ ap (option_map f) (slice_get_read items (length items) i item refl within is)

-- an index that shows something is within, and so its item shows it
pub index_shows : {X Y : Type 0} (f : X → Y) (items : List X) (i : ℕ) (other : X) (value : Y) → slice_get (map f items) i ≡ Some value → (i < length items) × (f (get_or items i other) ≡ value)
index_shows f items i other value shows =
    let within : i < length items = omega (arith, slice_get_within (map f items) i value shows, length-map items f) in (
      within,
      (let shown : slice_get (map f items) i ≡ Some (f (get_or items i other)) = slice_get-map f items i ∙ ap (option_map f) (slice_get-get_or items i other within) in cc),
    )

-- what the last index shows, after a push
pub last_of_map : {X Y : Type 0} (f : X → Y) (items pushed : List X) (item : X) (n : ℕ) → pushed ≡ items ++ item ∷ [] → n ≡ length pushed → slice_get (map f pushed) (n - 1) ≡ Some (f item)
last_of_map f items pushed item n is long =
    let one_more : length pushed ≡ length items + 1 = ap length is ∙ length-append items (item ∷ []) in
    let there : item ≡ get_or pushed (n - 1) item = sym (get_or_push items item item (n - 1) (omega (arith, one_more, long))) ∙ ap (λ (l : List _). get_or l (n - 1) item) (sym is) in
    shown_of_map f pushed (n - 1) item (omega (arith, one_more, long)) there

-- an item of a list in which one was replaced stays, or the new one stands where it was
pub stays_or_replaced : {X : Type 0} (items : List X) (index : ℕ) (new item : X) → index < length items → Contains items item
    → ((item ≡ get_or items index item) × Contains (slice_set items index new) new) ⊎ Contains (slice_set items index new) item
stays_or_replaced items index new item within there = elim (cases_eq there.0 index) [
  | inl is ↦ inl (subst (λ (n : ℕ). item ≡ get_or items n item) is (sym there.2), (index, omega (arith, length-set items index new), get_or-set_same items index new new within))
  | inr not ↦ inr (there.0, omega (arith, there.1, length-set items index new), get_or-set_other items index there.0 new item not ∙ there.2)
]

pub new_item : {X : Type 0} (items : List X) (index : ℕ) (new : X) → index < length items → Contains (slice_set items index new) new
new_item items index new within = (index, omega (arith, within, length-set items index new), get_or-set_same items index new new within)

pub same_item : {X : Type 0} (items : List X) (i : ℕ) (a b : X) → i < length items → get_or items i a ≡ get_or items i b
same_item items i a b within = let both : Some (get_or items i a) ≡ Some (get_or items i b) = sym (slice_get-get_or items i a within) ∙ slice_get-get_or items i b within in cc
