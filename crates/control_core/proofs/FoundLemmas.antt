-- What is found of an id once recordings are added, changed or gone.
use Rattle.std.proofs.Common.{◌≡◌, ◌+◌, ◌+ℤ◌, ◌≤ℤ◌, ℤ, pos, Bool, true, false, cond, List, [], ◌∷◌, ◌++◌, length, map, filter, Some, refl, sym, ap, subst, ◌∙◌, true≢false, arith}
use Rattle.std.proofs.lemmas.Int.{ints}
use Rattle.std.proofs.lemmas.Bool.Decides.{Decides-int_eq}
use Rattle.std.specs.Prelude.{is_some}
use Rattle.std.specs.Ordering.{int_eq}
use Rattle.archive_model.specs.declared.registration.Registration.{Registration}
use Rattle.archive_model.specs.Keyed.{find, change, without, Each, Rise}
use Rattle.archive_model.specs.Checks.{is_of}
use Rattle.archive_model.specs.Register.{id_of, is_active}

-- ---- lists

module _ {X : Type 0} (number : X → ℤ) where
  rise_lower : (low least next : ℤ) (xs : List X) → least ≤ℤ low → Rise number low xs next → Rise number least xs next
  rise_lower low least next [] lower rising = omega (arith, ints)
  rise_lower low least next (y ∷ ys) lower rising = (omega (arith, ints, rising.0), rising.1)

  pub least_next : (low next : ℤ) (xs : List X) → Rise number low xs next → low ≤ℤ next
  least_next low next [] rising = rising
  least_next low next (y ∷ ys) rising = let more = least_next (number y +ℤ pos 1) next ys rising.1 in omega (arith, ints, rising.0)

  pub rise_change : (n low next : ℤ) (f : X → X) (xs : List X) → ((x : X) → number (f x) ≡ number x) → Rise number low xs next → Rise number low (change number n f xs) next
  rise_change n low next f [] kept rising = rising
  rise_change n low next f (x ∷ xs) kept rising = by (int_eq n (number x)) (rise_change n (number x +ℤ pos 1) next f xs kept rising.1)
    where
      by : (b : Bool) → Rise number (number x +ℤ pos 1) (change number n f xs) next → Rise number low (cond b (f x ∷ xs) (x ∷ change number n f xs)) next
      by true rest = (subst (λ (z : ℤ). low ≤ℤ z) (sym (kept x)) rising.0, subst (λ (z : ℤ). Rise number (z +ℤ pos 1) xs next) (sym (kept x)) rising.1)
      by false rest = (rising.0, rest)

  pub rise_without : (n low next : ℤ) (xs : List X) → Rise number low xs next → Rise number low (without number n xs) next
  rise_without n low next [] rising = rising
  rise_without n low next (x ∷ xs) rising = by (int_eq n (number x)) (rise_without n (number x +ℤ pos 1) next xs rising.1)
    where
      by : (b : Bool) → Rise number (number x +ℤ pos 1) (without number n xs) next → Rise number low (cond b xs (x ∷ without number n xs)) next
      by true rest = rise_lower (number x +ℤ pos 1) low next xs (omega (arith, ints, rising.0)) rising.1
      by false rest = (rising.0, rest)

  pub rise_map : (low next : ℤ) (f : X → X) (xs : List X) → ((x : X) → number (f x) ≡ number x) → Rise number low xs next → Rise number low (map f xs) next
  rise_map low next f [] kept rising = rising
  rise_map low next f (x ∷ xs) kept rising =
      (subst (λ (z : ℤ). low ≤ℤ z) (sym (kept x)) rising.0, subst (λ (z : ℤ). Rise number (z +ℤ pos 1) (map f xs) next) (sym (kept x)) (rise_map (number x +ℤ pos 1) next f xs kept rising.1))

module _ {X : Type 0} (P Q : X → Type 0) where
  pub each_weaker : (xs : List X) → ((x : X) → P x → Q x) → Each P xs → Each Q xs
  each_weaker [] so all = tt
  each_weaker (x ∷ xs) so all = (so x all.0, each_weaker xs so all.1)

  pub each_filter : (test : X → Bool) (xs : List X) → ((x : X) → test x ≡ true → P x → Q x) → Each P xs → Each Q (filter test xs)
  each_filter test [] so all = tt
  each_filter test (x ∷ xs) so all = by (test x) refl (each_filter test xs so all.1)
    where
      by : (b : Bool) → test x ≡ b → Each Q (filter test xs) → Each Q (cond b (x ∷ filter test xs) (filter test xs))
      by true is rest = (so x is all.0, rest)
      by false is rest = rest

module _ {X : Type 0} (P Q R : X → Type 0) where
  pub each_both : (xs : List X) → ((x : X) → P x → Q x → R x) → Each P xs → Each Q xs → Each R xs
  each_both [] so first second = tt
  each_both (x ∷ xs) so first second = (so x first.0 second.0, each_both xs so first.1 second.1)

-- ---- what is found of an id

pub found_more : (id : ℤ) (rs more : List Registration) (test : Registration → Bool) → is_of (find id_of id rs) test ≡ true → is_of (find id_of id (rs ++ more)) test ≡ true
found_more id [] more test has = absurd (true≢false (sym has))
found_more id (r ∷ rs) more test has = by (int_eq id (id_of r)) has (found_more id rs more test)
  where
    by : (b : Bool) → is_of (cond b (Some r) (find id_of id rs)) test ≡ true → (is_of (find id_of id rs) test ≡ true → is_of (find id_of id (rs ++ more)) test ≡ true)
        → is_of (cond b (Some r) (find id_of id (rs ++ more))) test ≡ true
    by true has rest = has
    by false has rest = rest has

pub found_last : (low : ℤ) (rs : List Registration) (r : Registration) (test : Registration → Bool) → Rise id_of low rs (id_of r) → test r ≡ true → is_of (find id_of (id_of r) (rs ++ r ∷ [])) test ≡ true
found_last low [] r test rising has = rw ((Decides-int_eq (id_of r) (id_of r)).1 refl) has
found_last low (x ∷ rs) r test rising has = by (int_eq (id_of r) (id_of x)) refl (found_last (id_of x +ℤ pos 1) rs r test rising.1 has) (least_next id_of (id_of x +ℤ pos 1) (id_of r) rs rising.1)
  where
    by : (b : Bool) → int_eq (id_of r) (id_of x) ≡ b → is_of (find id_of (id_of r) (rs ++ r ∷ [])) test ≡ true → (id_of x +ℤ pos 1) ≤ℤ id_of r
        → is_of (cond b (Some x) (find id_of (id_of r) (rs ++ r ∷ []))) test ≡ true
    by true is rest above = let same : id_of r ≡ id_of x = (Decides-int_eq (id_of r) (id_of x)).0 is in absurd (omega (arith, ints))
    by false is rest above = rest

pub found_changed : (id n : ℤ) (f : Registration → Registration) (rs : List Registration) (test : Registration → Bool) → ((r : Registration) → id_of (f r) ≡ id_of r) → ((r : Registration) → test r ≡ true → test (f r) ≡ true)
    → is_of (find id_of id rs) test ≡ true → is_of (find id_of id (change id_of n f rs)) test ≡ true
found_changed id n f [] test kept so has = has
found_changed id n f (r ∷ rs) test kept so has = by (int_eq n (id_of r)) (int_eq id (id_of r)) refl has (found_changed id n f rs test kept so)
  where
    by : (b c : Bool) → int_eq id (id_of r) ≡ c → is_of (cond c (Some r) (find id_of id rs)) test ≡ true
        → (is_of (find id_of id rs) test ≡ true → is_of (find id_of id (change id_of n f rs)) test ≡ true)
        → is_of (find id_of id (cond b (f r ∷ rs) (r ∷ change id_of n f rs))) test ≡ true
    by true true is has rest = let still : int_eq id (id_of (f r)) ≡ true = ap (int_eq id) (kept r) ∙ is in rw still (so r has)
    by true false is has rest = let still : int_eq id (id_of (f r)) ≡ false = ap (int_eq id) (kept r) ∙ is in rw still has
    by false true is has rest = rw is has
    by false false is has rest = rw is (rest has)

pub found_other : (id n : ℤ) (f : Registration → Registration) (rs : List Registration) → ((r : Registration) → id_of (f r) ≡ id_of r) → int_eq id n ≡ false → find id_of id (change id_of n f rs) ≡ find id_of id rs
found_other id n f [] kept other = refl
found_other id n f (r ∷ rs) kept other = by (int_eq n (id_of r)) refl (found_other id n f rs kept other)
  where
    by : (b : Bool) → int_eq n (id_of r) ≡ b → find id_of id (change id_of n f rs) ≡ find id_of id rs
        → find id_of id (cond b (f r ∷ rs) (r ∷ change id_of n f rs)) ≡ cond (int_eq id (id_of r)) (Some r) (find id_of id rs)
    by true is rest =
        let same : n ≡ id_of r = (Decides-int_eq n (id_of r)).0 is in
        let not_new : int_eq id (id_of (f r)) ≡ false = ap (int_eq id) (kept r ∙ sym same) ∙ other in
        let not_old : int_eq id (id_of r) ≡ false = ap (int_eq id) (sym same) ∙ other in
        rw (not_new, not_old) refl
    by false is rest = ap (cond (int_eq id (id_of r)) (Some r)) rest

pub found_left : (id n : ℤ) (rs : List Registration) → int_eq id n ≡ false → find id_of id (without id_of n rs) ≡ find id_of id rs
found_left id n [] other = refl
found_left id n (r ∷ rs) other = by (int_eq n (id_of r)) refl (found_left id n rs other)
  where
    by : (b : Bool) → int_eq n (id_of r) ≡ b → find id_of id (without id_of n rs) ≡ find id_of id rs
        → find id_of id (cond b rs (r ∷ without id_of n rs)) ≡ cond (int_eq id (id_of r)) (Some r) (find id_of id rs)
    by true is rest =
        let same : n ≡ id_of r = (Decides-int_eq n (id_of r)).0 is in
        let not_old : int_eq id (id_of r) ≡ false = ap (int_eq id) (sym same) ∙ other in
        rw not_old refl
    by false is rest = ap (cond (int_eq id (id_of r)) (Some r)) rest

pub found_here : (n : ℤ) (f : Registration → Registration) (rs : List Registration) (test : Registration → Bool) → ((r : Registration) → id_of (f r) ≡ id_of r) → ((r : Registration) → test (f r) ≡ true)
    → is_some (find id_of n rs) ≡ true → is_of (find id_of n (change id_of n f rs)) test ≡ true
found_here n f [] test kept so has = absurd (true≢false (sym has))
found_here n f (r ∷ rs) test kept so has = by (int_eq n (id_of r)) refl has (found_here n f rs test kept so)
  where
    by : (b : Bool) → int_eq n (id_of r) ≡ b → is_some (cond b (Some r) (find id_of n rs)) ≡ true → (is_some (find id_of n rs) ≡ true → is_of (find id_of n (change id_of n f rs)) test ≡ true)
        → is_of (find id_of n (cond b (f r ∷ rs) (r ∷ change id_of n f rs))) test ≡ true
    by true is has rest = let still : int_eq n (id_of (f r)) ≡ true = ap (int_eq n) (kept r) ∙ is in rw still (so r)
    by false is has rest = rw is (rest has)

-- what is found is below the next id
pub found_below : (id low next : ℤ) (rs : List Registration) (test : Registration → Bool) → Rise id_of low rs next → is_of (find id_of id rs) test ≡ true → id ≡ next → ⊥
found_below id low next [] test rising has same = absurd (true≢false (sym has))
found_below id low next (r ∷ rs) test rising has same =
    by (int_eq id (id_of r)) refl has (λ later. found_below id (id_of r +ℤ pos 1) next rs test rising.1 later same) (least_next id_of (id_of r +ℤ pos 1) next rs rising.1)
  where
    by : (b : Bool) → int_eq id (id_of r) ≡ b → is_of (cond b (Some r) (find id_of id rs)) test ≡ true → (is_of (find id_of id rs) test ≡ true → ⊥) → (id_of r +ℤ pos 1) ≤ℤ next → ⊥
    by true is has later above = let this : id ≡ id_of r = (Decides-int_eq id (id_of r)).0 is in absurd (omega (arith, ints))
    by false is has later above = later has

-- without an active recording one less is active
pub one_less : (n : ℤ) (rs : List Registration) → is_of (find id_of n rs) is_active ≡ true → length (filter is_active (without id_of n rs)) + 1 ≡ length (filter is_active rs)
one_less n [] has = absurd (true≢false (sym has))
one_less n (r ∷ rs) has = by (int_eq n (id_of r)) has (one_less n rs)
  where
    beside : (c : Bool) → length (filter is_active (without id_of n rs)) + 1 ≡ length (filter is_active rs)
        → length (cond c (r ∷ filter is_active (without id_of n rs)) (filter is_active (without id_of n rs))) + 1 ≡ length (cond c (r ∷ filter is_active rs) (filter is_active rs))
    beside true less = omega (arith, less)
    beside false less = less

    by : (b : Bool) → is_of (cond b (Some r) (find id_of n rs)) is_active ≡ true
        → (is_of (find id_of n rs) is_active ≡ true → length (filter is_active (without id_of n rs)) + 1 ≡ length (filter is_active rs))
        → length (filter is_active (cond b rs (r ∷ without id_of n rs))) + 1 ≡ length (filter is_active (r ∷ rs))
    by true has less = rw has (omega arith)
    by false has less = beside (is_active r) (less has)
