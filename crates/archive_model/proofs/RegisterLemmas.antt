-- Recordings that stand under their ids, and what becomes of them there.
use Rattle.std.proofs.Common.{rules, subst, negsuc, ◌≡◌, ◌<◌, ◌≤◌, ◌+◌, ◌+ℤ◌, ◌<ℤ◌, ◌≤ℤ◌, ◌&&◌, int_le, int_lt, ℕ, zero, suc, ℤ, pos, Bool, true, false, cond, nat_lt, List, [], ◌∷◌, ◌++◌, length, map, Some, None, refl, sym, ap, ◌∙◌, arith, slice_get, slice_set, remove, not}
use Rattle.std.proofs.lemmas.Int.{ints}
use Rattle.std.proofs.lemmas.List.{length-map}
use Rattle.std.proofs.lemmas.Bool.Decides.{nat_tests, Decides-int_eq}
use Rattle.std.specs.Prelude.{MatchOption, position}
use Rattle.std.specs.List.{list_all, position_or_len}
use Rattle.std.specs.Ordering.{int_eq}
use Rattle.std.specs.Map.{keys_of, values_of}
use Rattle.indexmap.specs.Layout.{set_value_at}
use Rattle.indexmap.specs.IndexMap.{insert_entry}
use Rattle.archive_model.specs.declared.registration.Registration.{Registration}
use Rattle.archive_model.specs.declared.registration.Change.{Change}
use Rattle.archive_model.specs.declared.registration.Change.TheVariants.{Settle, Stop, Extend, Truncate, PurgeSegments}
use Rattle.archive_model.specs.Keyed.{find, change, without, Each, Rise}
use Rattle.archive_model.specs.Register.{HasLayout, changed_by, id_of, is_active, is_behind, restarted}
use Rattle.archive_model.proofs.CopyLemmas.{rise_more}
use Rattle.archive_model.specs.Registered.{KeepsRegister}
use Rattle.archive_model.specs.Numbered.{IsIndexOf, IsNone}

le_true : (a b : ℤ) → int_le a b ≡ true → a ≤ℤ b
le_true a b is = search rules

both : {a b : Bool} → a && b ≡ true → (a ≡ true) × (b ≡ true)
both {a = true} {b = b} h = (refl, h)
both {a = false} {b = b} h = absurd cc

lt_true : (a b : ℤ) → int_lt a b ≡ true → a <ℤ b
lt_true a b is = search rules

module _ {X : Type 0} (number : X → ℤ) where
  first_index : (n : ℤ) (x : X) (xs : List X) → int_eq n (number x) ≡ true → IsIndexOf number n (x ∷ xs) 0
  first_index n x xs is =
      record { value = x; within = omega arith; at = refl; found = rw is refl; changed = λ f. rw is refl }

  later_index : (n : ℤ) (x : X) (xs : List X) (i : ℕ) → int_eq n (number x) ≡ false → IsIndexOf number n xs i → IsIndexOf number n (x ∷ xs) (suc i)
  later_index n x xs i other index = record {
    value = index.value;
    within = let inside = index.within in omega arith;
    at = index.at;
    found = rw other index.found;
    changed = λ f. rw other (ap (λ ys. x ∷ ys) (index.changed f));
  }

  none_later : (n : ℤ) (x : X) (xs : List X) → int_eq n (number x) ≡ false → IsNone number n xs → IsNone number n (x ∷ xs)
  none_later n x xs other none = record {
    found = rw other none.found;
    changed = λ f. rw other (ap (λ ys. x ∷ ys) (none.changed f));
  }

  abbrev pub IsIndexBy : ℤ → List X → ℕ → Type 0
  IsIndexBy n xs i = (i < length xs → IsIndexOf number n xs i) × (length xs ≤ i → IsNone number n xs)

  index_by : (n : ℤ) (xs : List X) → IsIndexBy n xs (position_or_len (int_eq n) (map number xs))
  index_by n [] = (λ within. absurd (omega arith), λ past. record { found = refl; changed = λ f. refl })
  index_by n (x ∷ xs) = by (int_eq n (number x)) refl (index_by n xs)
    where
      by : (b : Bool) → int_eq n (number x) ≡ b → IsIndexBy n xs (position_or_len (int_eq n) (map number xs)) → IsIndexBy n (x ∷ xs) (cond (not b) (1 + position_or_len (int_eq n) (map number xs)) 0)
      by true is rest = (λ within. first_index n x xs is, λ past. absurd (omega arith))
      by false is rest = (
        λ within. subst (IsIndexOf number n (x ∷ xs)) (omega arith) (later_index n x xs _ is (rest.0 (omega arith))),
        λ past. none_later n x xs is (rest.1 (omega arith)),
      )

  chosen : (n : ℤ) (xs : List X) (i size : ℕ) (b : Bool) → size ≡ length xs → nat_lt i size ≡ b → IsIndexBy n xs i → MatchOption (cond b (Some i) None) (IsNone number n xs) (IsIndexOf number n xs)
  chosen n xs i size true is lt by_number = by_number.0 (grind (arith, nat_tests))
  chosen n xs i size false is lt by_number = by_number.1 (grind (arith, nat_tests))

  -- the index of a number, where the numbers are these
  pub index_of_number : (n : ℤ) (ns : List ℤ) (xs : List X) → ns ≡ map number xs → MatchOption (position (int_eq n) ns) (IsNone number n xs) (IsIndexOf number n xs)
  index_of_number n ns xs is =
      rw is (chosen n xs (position_or_len (int_eq n) (map number xs)) (length (map number xs)) _ (length-map xs number) refl (index_by n xs))

  -- values that rise, and each of which has a property

  pub rise_push : (low next : ℤ) (xs : List X) (x : X) → Rise number low xs next → number x ≡ next → Rise number low (xs ++ x ∷ []) (next +ℤ pos 1)
  rise_push low next [] x rising is = (omega (arith, ints), omega (arith, ints))
  rise_push low next (y ∷ ys) x rising is = (rising.0, rise_push (number y +ℤ pos 1) next ys x rising.1 is)

  pub rise_set : (low next : ℤ) (xs : List X) (i : ℕ) (x new : X) → Rise number low xs next → slice_get xs i ≡ Some x → number new ≡ number x → Rise number low (slice_set xs i new) next
  rise_set low next [] i x new rising gets same = rising
  rise_set low next (y ∷ ys) zero x new rising gets same =
      let is : y ≡ x = cc in
      let ids : number new ≡ number y = same ∙ ap number (sym is) in rw ids rising
  rise_set low next (y ∷ ys) (suc i) x new rising gets same = (rising.0, rise_set (number y +ℤ pos 1) next ys i x new rising.1 gets same)

  rise_lower : (low least next : ℤ) (xs : List X) → least ≤ℤ low → Rise number low xs next → Rise number least xs next
  rise_lower low least next [] lower rising = omega (arith, ints)
  rise_lower low least next (y ∷ ys) lower rising = (omega (arith, ints, rising.0), rising.1)

  -- up to an id that is above all of them
  pub rise_to : (low next id : ℤ) (xs : List X) → Rise number low xs next → low ≤ℤ id → list_all (λ x. int_lt (number x) id) xs ≡ true → Rise number low xs id
  rise_to low next id [] rising above below = above
  rise_to low next id (y ∷ ys) rising above below =
      let parts = both below in
      (rising.0, rise_to (number y +ℤ pos 1) next id ys rising.1 (omega (arith, ints, lt_true (number y) id parts.0)) parts.1)

  pub rise_remove : (low next : ℤ) (xs : List X) (i : ℕ) → Rise number low xs next → Rise number low (remove xs i) next
  rise_remove low next [] zero rising = rising
  rise_remove low next [] (suc i) rising = rising
  rise_remove low next (y ∷ ys) zero rising = rise_lower (number y +ℤ pos 1) low next ys (omega (arith, ints, rising.0)) rising.1
  rise_remove low next (y ∷ ys) (suc i) rising = (rising.0, rise_remove (number y +ℤ pos 1) next ys i rising.1)

  least_next : (low next : ℤ) (xs : List X) → Rise number low xs next → low ≤ℤ next
  least_next low next [] rising = rising
  least_next low next (y ∷ ys) rising = let more = least_next (number y +ℤ pos 1) next ys rising.1 in omega (arith, ints, rising.0)

  pub rise_length : (low next : ℤ) (xs : List X) → Rise number low xs next → (low +ℤ pos (length xs)) ≤ℤ next
  rise_length low next [] rising = omega (arith, ints, rising)
  rise_length low next (y ∷ ys) rising = let more = rise_length (number y +ℤ pos 1) next ys rising.1 in omega (arith, ints, rising.0)

  rise_at : (low next : ℤ) (xs : List X) (i : ℕ) (x : X) → Rise number low xs next → slice_get xs i ≡ Some x → low ≤ℤ number x
  rise_at low next [] i x rising gets = absurd cc
  rise_at low next (y ∷ ys) zero x rising gets = let same : number y ≡ number x = (let is : y ≡ x = cc in ap number is) in let first = rising.0 in omega (arith, ints)
  rise_at low next (y ∷ ys) (suc i) x rising gets = let later = rise_at (number y +ℤ pos 1) next ys i x rising.1 gets in let first = rising.0 in omega (arith, ints)

  -- of numbers that rise, to remove the value at its index is to remove the value of its number
  pub without_at : (low next n : ℤ) (xs : List X) (i : ℕ) (x : X) → Rise number low xs next → slice_get xs i ≡ Some x → number x ≡ n → without number n xs ≡ remove xs i
  without_at low next n [] i x rising gets is = absurd cc
  without_at low next n (y ∷ ys) zero x rising gets is =
      let same : n ≡ number y = (let this : y ≡ x = cc in sym is ∙ ap number (sym this)) in
      let here : int_eq n (number y) ≡ true = (Decides-int_eq n (number y)).1 same in rw here refl
  without_at low next n (y ∷ ys) (suc i) x rising gets is = by (int_eq n (number y)) refl (without_at (number y +ℤ pos 1) next n ys i x rising.1 gets is) (rise_at (number y +ℤ pos 1) next ys i x rising.1 gets)
    where
      by : (b : Bool) → int_eq n (number y) ≡ b → without number n ys ≡ remove ys i → (number y +ℤ pos 1) ≤ℤ number x → cond b ys (y ∷ without number n ys) ≡ y ∷ remove ys i
      by true e later above = let same : n ≡ number y = (Decides-int_eq n (number y)).0 e in absurd (omega (arith, ints))
      by false e later above = ap (λ zs. y ∷ zs) later

  -- what is found of a number has it
  pub found_number : (n : ℤ) (xs : List X) (x : X) → find number n xs ≡ Some x → number x ≡ n
  found_number n [] x found = absurd cc
  found_number n (y ∷ ys) x found = by (int_eq n (number y)) refl found (found_number n ys x)
    where
      by : (b : Bool) → int_eq n (number y) ≡ b → cond b (Some y) (find number n ys) ≡ Some x → (find number n ys ≡ Some x → number x ≡ n) → number x ≡ n
      by true e is later = let same : n ≡ number y = (Decides-int_eq n (number y)).0 e in let this : y ≡ x = cc in sym (ap number this) ∙ sym same
      by false e is later = later is

  -- where nothing is found there is nothing to remove
  pub without_none : (n : ℤ) (xs : List X) → find number n xs ≡ None → without number n xs ≡ xs
  without_none n [] none = refl
  without_none n (y ∷ ys) none = by (int_eq n (number y)) none (without_none n ys)
    where
      by : (b : Bool) → cond b (Some y) (find number n ys) ≡ None → (find number n ys ≡ None → without number n ys ≡ ys) → cond b ys (y ∷ without number n ys) ≡ y ∷ ys
      by true is later = absurd cc
      by false is later = ap (λ zs. y ∷ zs) (later is)

module _ {X : Type 0} (P : X → Type 0) where
  pub each_push : (xs : List X) (x : X) → Each P xs → P x → Each P (xs ++ x ∷ [])
  each_push [] x all one = (one, tt)
  each_push (y ∷ ys) x all one = (all.0, each_push ys x all.1 one)

  pub each_set : (xs : List X) (i : ℕ) (x new : X) → Each P xs → slice_get xs i ≡ Some x → (P x → P new) → Each P (slice_set xs i new)
  each_set [] i x new all gets keeps = tt
  each_set (y ∷ ys) zero x new all gets keeps = let is : y ≡ x = cc in (keeps (subst P is all.0), all.1)
  each_set (y ∷ ys) (suc i) x new all gets keeps = (all.0, each_set ys i x new all.1 gets keeps)

  pub each_remove : (xs : List X) (i : ℕ) → Each P xs → Each P (remove xs i)
  each_remove [] zero all = tt
  each_remove [] (suc i) all = tt
  each_remove (y ∷ ys) zero all = all.1
  each_remove (y ∷ ys) (suc i) all = (all.0, each_remove ys i all.1)

  pub each_at : (xs : List X) (i : ℕ) (x : X) → Each P xs → slice_get xs i ≡ Some x → P x
  each_at [] i x all gets = absurd cc
  each_at (y ∷ ys) zero x all gets = let is : y ≡ x = cc in subst P is all.0
  each_at (y ∷ ys) (suc i) x all gets = each_at ys i x all.1 gets

  pub each_map : (f : X → X) (xs : List X) → ((x : X) → P x → P (f x)) → Each P xs → Each P (map f xs)
  each_map f [] keeps all = tt
  each_map f (y ∷ ys) keeps all = (keeps y all.0, each_map f ys keeps all.1)

map-remove : {X Y : Type 0} (f : X → Y) (xs : List X) (i : ℕ) → map f (remove xs i) ≡ remove (map f xs) i
map-remove f [] zero = refl
map-remove f [] (suc i) = refl
map-remove f (x ∷ xs) zero = refl
map-remove f (x ∷ xs) (suc i) = ap (λ ys. f x ∷ ys) (map-remove f xs i)

map-push : {X Y : Type 0} (f : X → Y) (xs : List X) (x : X) → map f (xs ++ x ∷ []) ≡ map f xs ++ f x ∷ []
map-push f [] x = refl
map-push f (y ∷ ys) x = ap (λ zs. f y ∷ zs) (map-push f ys x)

-- a value that is written at an index
values_set : (es : List (ℤ × Registration)) (i : ℕ) (w : Registration) → values_of (set_value_at es i w) ≡ slice_set (values_of es) i w
values_set [] i w = refl
values_set (e ∷ es) zero w = refl
values_set (e ∷ es) (suc i) w = ap (λ ys. e.1 ∷ ys) (values_set es i w)

keys_set : (es : List (ℤ × Registration)) (i : ℕ) (w : Registration) → keys_of (set_value_at es i w) ≡ keys_of es
keys_set [] i w = refl
keys_set (e ∷ es) zero w = refl
keys_set (e ∷ es) (suc i) w = ap (λ ys. e.0 ∷ ys) (keys_set es i w)

ids_set : (rs : List Registration) (i : ℕ) (r new : Registration) → slice_get rs i ≡ Some r → id_of new ≡ id_of r → map id_of (slice_set rs i new) ≡ map id_of rs
ids_set [] i r new gets same = refl
ids_set (x ∷ rs) zero r new gets same = let is : x ≡ r = cc in let ids : id_of new ≡ id_of x = same ∙ ap id_of (sym is) in ap (λ n. n ∷ map id_of rs) ids
ids_set (x ∷ rs) (suc i) r new gets same = ap (λ ns. id_of x ∷ ns) (ids_set rs i r new gets same)

-- no change renames a recording or gives it other lengths
pub id_kept : (c : Change) (r : Registration) → id_of (changed_by c r) ≡ id_of r
id_kept (Settle position) r = refl
id_kept (Stop timestamp) r = refl
id_kept (Extend session_id) r = refl
id_kept (Truncate position) r = refl
id_kept (PurgeSegments position) r = refl

layout_kept : (c : Change) (r : Registration) → HasLayout r.descriptor → HasLayout (changed_by c r).descriptor
layout_kept (Settle position) r has = record { term = has.term; segment = has.segment }
layout_kept (Stop timestamp) r has = record { term = has.term; segment = has.segment }
layout_kept (Extend session_id) r has = record { term = has.term; segment = has.segment }
layout_kept (Truncate position) r has = record { term = has.term; segment = has.segment }
layout_kept (PurgeSegments position) r has = record { term = has.term; segment = has.segment }

abbrev pub Laid : Registration → Type 0
Laid r = HasLayout r.descriptor

-- what a write at an index leaves
keeps_set : (es : List (ℤ × Registration)) (next : ℤ) (i : ℕ) (r new : Registration) → KeepsRegister es next → slice_get (values_of es) i ≡ Some r → id_of new ≡ id_of r → (Laid r → Laid new)
    → KeepsRegister (set_value_at es i new) next
keeps_set es next i r new keeps gets same laid = record {
  keyed = keys_set es i new ∙ keeps.keyed ∙ sym (ids_set (values_of es) i r new gets same) ∙ ap (map id_of) (sym (values_set es i new));
  rising = subst (λ (rs : List Registration). Rise id_of (pos 0) rs next) (sym (values_set es i new)) (rise_set id_of (pos 0) next (values_of es) i r new keeps.rising gets same);
  layouts = subst (λ (rs : List Registration). Each Laid rs) (sym (values_set es i new)) (each_set Laid (values_of es) i r new keeps.layouts gets laid);
}

pub keeps_changed : (es : List (ℤ × Registration)) (next : ℤ) (i : ℕ) (c : Change) (r new : Registration) → KeepsRegister es next → slice_get (values_of es) i ≡ Some r → new ≡ changed_by c r
    → KeepsRegister (set_value_at es i new) next
keeps_changed es next i c r new keeps gets is = keeps_set es next i r new keeps gets (ap id_of is ∙ id_kept c r) (λ laid. rw is (layout_kept c r laid))

-- to write at the index of an id is to change the recording of the id
pub written_is_changed : (id : ℤ) (es : List (ℤ × Registration)) (i : ℕ) (f : Registration → Registration) (r new : Registration) → IsIndexOf id_of id (values_of es) i → slice_get (values_of es) i ≡ Some r → new ≡ f r
    → values_of (set_value_at es i new) ≡ change id_of id f (values_of es)
written_is_changed id es i f r new index gets is =
    let same : Some index.value ≡ Some r = sym index.at ∙ gets in
    let made : new ≡ f index.value = cc in
    values_set es i new ∙ ap (slice_set (values_of es) i) made ∙ sym (index.changed f)

pub removed_there : (id next : ℤ) (es : List (ℤ × Registration)) (i : ℕ) → KeepsRegister es next → IsIndexOf id_of id (values_of es) i → values_of (remove es i) ≡ without id_of id (values_of es)
removed_there id next es i keeps index =
    map-remove (λ e. e.1) es i ∙ sym (without_at id_of (pos 0) next id (values_of es) i index.value keeps.rising index.at (found_number id_of id (values_of es) index.value index.found))

pub keeps_removed : (es : List (ℤ × Registration)) (next : ℤ) (i : ℕ) → KeepsRegister es next → KeepsRegister (remove es i) next
keeps_removed es next i keeps =
    let values : values_of (remove es i) ≡ remove (values_of es) i = map-remove (λ e. e.1) es i in
    record {
      keyed = map-remove (λ e. e.0) es i ∙ ap (λ ns. remove ns i) keeps.keyed ∙ sym (map-remove id_of (values_of es) i) ∙ ap (map id_of) (sym values);
      rising = rw values (rise_remove id_of (pos 0) next (values_of es) i keeps.rising);
      layouts = rw values (each_remove Laid (values_of es) i keeps.layouts);
    }

-- a recording of the next id is new, and goes last
pub entries_added : (es : List (ℤ × Registration)) (next : ℤ) (r : Registration) → KeepsRegister es next → insert_entry int_eq es next r ≡ es ++ (next, r) ∷ []
entries_added es next r keeps = added es (pos 0) keeps.keyed keeps.rising
  where
    added : (fs : List (ℤ × Registration)) (low : ℤ) → keys_of fs ≡ map id_of (values_of fs) → Rise id_of low (values_of fs) next → insert_entry int_eq fs next r ≡ fs ++ (next, r) ∷ []
    added [] low keyed rising = refl
    added (f ∷ fs) low keyed rising =
        let first : f.0 ≡ id_of f.1 = cc in
        let others : keys_of fs ≡ map id_of (values_of fs) = cc in
        let below = least_next id_of (id_of f.1 +ℤ pos 1) next (values_of fs) rising.1 in
        by (int_eq next f.0) refl first below (added fs (id_of f.1 +ℤ pos 1) others rising.1)
      where
        by : (b : Bool) → int_eq next f.0 ≡ b → f.0 ≡ id_of f.1 → (id_of f.1 +ℤ pos 1) ≤ℤ next → insert_entry int_eq fs next r ≡ fs ++ (next, r) ∷ []
            → cond b ((f.0, r) ∷ fs) (f ∷ insert_entry int_eq fs next r) ≡ f ∷ (fs ++ (next, r) ∷ [])
        by true e first below rest = let same : next ≡ f.0 = (Decides-int_eq next f.0).0 e in absurd (omega (arith, ints))
        by false e first below rest = ap (λ gs. f ∷ gs) rest

pub keeps_added : (es : List (ℤ × Registration)) (next : ℤ) (r : Registration) → KeepsRegister es next → id_of r ≡ next → Laid r → KeepsRegister (es ++ (next, r) ∷ []) (next +ℤ pos 1)
keeps_added es next r keeps is laid =
    let values : values_of (es ++ (next, r) ∷ []) ≡ values_of es ++ r ∷ [] = map-push (λ e. e.1) es (next, r) in
    record {
      keyed = map-push (λ e. e.0) es (next, r) ∙ ap (λ ns. ns ++ next ∷ []) keeps.keyed ∙ ap (λ n. map id_of (values_of es) ++ n ∷ []) (sym is)
          ∙ sym (map-push id_of (values_of es) r) ∙ ap (map id_of) (sym values);
      rising = rw values (rise_push id_of (pos 0) next (values_of es) r keeps.rising is);
      layouts = rw values (each_push Laid (values_of es) r keeps.layouts laid);
    }

-- a recording that stands behind the others goes last, and the next id stays

pub keeps_behind : (es : List (ℤ × Registration)) (next id : ℤ) → KeepsRegister es next → is_behind (values_of es) id ≡ true → KeepsRegister es id
keeps_behind es next id keeps behind =
    let parts = both behind in
    record { keyed = keeps.keyed; rising = rise_to id_of (pos 0) next id (values_of es) keeps.rising (le_true (pos 0) id parts.0) parts.1; layouts = keeps.layouts }

pub keeps_restored : (es : List (ℤ × Registration)) (next id : ℤ) (r : Registration) → KeepsRegister es next → is_behind (values_of es) id ≡ true → id_of r ≡ id → id <ℤ next → Laid r → KeepsRegister (es ++ (id, r) ∷ []) next
keeps_restored es next id r keeps behind is below laid =
    let kept = keeps_added es id r (keeps_behind es next id keeps behind) is laid in
    record { keyed = kept.keyed; rising = rise_more id_of (pos 0) (id +ℤ pos 1) next (values_of (es ++ (id, r) ∷ [])) kept.rising (omega (arith, ints, below)); layouts = kept.layouts }

pub values_added : (es : List (ℤ × Registration)) (next : ℤ) (r : Registration) → values_of (es ++ (next, r) ∷ []) ≡ values_of es ++ r ∷ []
values_added es next r = map-push (λ e. e.1) es (next, r)

-- a function is applied to the first values of a list
module _ {X : Type 0} (f : X → X) where
  abbrev pub first_made : ℕ → List X → List X
  first_made zero xs = xs
  first_made (suc i) [] = []
  first_made (suc i) (x ∷ xs) = f x ∷ first_made i xs

  made_next : (i : ℕ) (xs : List X) (x new : X) → slice_get (first_made i xs) i ≡ Some x → new ≡ f x → slice_set (first_made i xs) i new ≡ first_made (suc i) xs
  made_next zero [] x new gets is = refl
  made_next zero (y ∷ xs) x new gets is = let same : y ≡ x = cc in ap (λ (z : X). z ∷ xs) (is ∙ ap f (sym same))
  made_next (suc i) [] x new gets is = refl
  made_next (suc i) (y ∷ xs) x new gets is = ap (λ ys. f y ∷ ys) (made_next i xs x new gets is)

  pub made_more : (i : ℕ) (xs ys : List X) (x new : X) → ys ≡ first_made i xs → slice_get ys i ≡ Some x → new ≡ f x → slice_set ys i new ≡ first_made (i + 1) xs
  made_more i xs ys x new done gets is =
      let more : suc i ≡ i + 1 = omega arith in
      ap (λ zs. slice_set zs i new) done ∙ made_next i xs x new (rw done at gets) is ∙ ap (λ k. first_made k xs) more

  pub all_made : (i : ℕ) (xs : List X) → length xs ≤ i → first_made i xs ≡ map f xs
  all_made zero [] past = refl
  all_made zero (x ∷ xs) past = absurd (omega arith)
  all_made (suc i) [] past = refl
  all_made (suc i) (x ∷ xs) past = ap (λ ys. f x ∷ ys) (all_made i xs (omega arith))

pub restarted_more : (es : List (ℤ × Registration)) (rs : List Registration) (i : ℕ) (r new : Registration) → values_of es ≡ first_made restarted i rs → slice_get (values_of es) i ≡ Some r → new ≡ restarted r
    → values_of (set_value_at es i new) ≡ first_made restarted (i + 1) rs
restarted_more es rs i r new done gets is = values_set es i new ∙ made_more restarted i rs (values_of es) r new done gets is

restart_is_kept : (r : Registration) (b : Bool) → (id_of (cond b (changed_by (Stop (negsuc 0)) r) r) ≡ id_of r) × (Laid r → Laid (cond b (changed_by (Stop (negsuc 0)) r) r))
restart_is_kept r true = (refl, layout_kept (Stop (negsuc 0)) r)
restart_is_kept r false = (refl, λ laid. laid)

pub keeps_restarted : (es : List (ℤ × Registration)) (next : ℤ) (i : ℕ) (r new : Registration) → KeepsRegister es next → slice_get (values_of es) i ≡ Some r → new ≡ restarted r
    → KeepsRegister (set_value_at es i new) next
keeps_restarted es next i r new keeps gets is =
    let kept = restart_is_kept r (is_active r) in
    keeps_set es next i r new keeps gets (ap id_of is ∙ kept.0) (λ laid. rw is (kept.1 laid))

pub values_length : (es : List (ℤ × Registration)) → length (values_of es) ≡ length es
values_length es = length-map es (λ e. e.1)
