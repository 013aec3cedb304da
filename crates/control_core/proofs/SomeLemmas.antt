-- What holds of the recording of an id holds of it once recordings are added or changed.
use Rattle.std.proofs.Common.{◌≡◌, sym, subst, refl, ℤ, Bool, true, false, cond, List, [], ◌∷◌, ◌++◌, Option, Some, None}
use Rattle.std.proofs.lemmas.Bool.Decides.{Decides-int_eq}
use Rattle.std.specs.Prelude.{IsSomeAnd}
use Rattle.std.specs.Ordering.{int_eq}
use Rattle.archive_model.specs.declared.registration.Registration.{Registration}
use Rattle.archive_model.specs.Keyed.{find, change}
use Rattle.archive_model.specs.Register.{id_of}
use Rattle.control_core.proofs.ChangeLemmas.{find-change}
use Rattle.control_core.proofs.FoundLemmas.{found_other}

some_here : (n : ℤ) (f : Registration → Registration) (rs : List Registration) (P : Registration → Type 0) → ((r : Registration) → id_of (f r) ≡ id_of r) → ((r : Registration) → find id_of n rs ≡ Some r → P r → P (f r))
    → IsSomeAnd (find id_of n rs) P → IsSomeAnd (find id_of n (change id_of n f rs)) P
some_here n f rs P kept so has = by (find id_of n rs) refl has
  where
    by : (o : Option Registration) → find id_of n rs ≡ o → IsSomeAnd o P → IsSomeAnd (find id_of n (change id_of n f rs)) P
    by None found has = absurd has
    by (Some r) found has = subst (λ (o : Option Registration). IsSomeAnd o P) (sym (find-change id_of n f rs r kept found)) (so r found has)

-- what holds of the recording of an id holds of it once one is changed
pub some_changed : (id n : ℤ) (f : Registration → Registration) (rs : List Registration) (P : Registration → Type 0) → ((r : Registration) → id_of (f r) ≡ id_of r)
    → (id ≡ n → (r : Registration) → find id_of n rs ≡ Some r → P r → P (f r)) → IsSomeAnd (find id_of id rs) P → IsSomeAnd (find id_of id (change id_of n f rs)) P
some_changed id n f rs P kept so has = by (int_eq id n) refl
  where
    by : (b : Bool) → int_eq id n ≡ b → IsSomeAnd (find id_of id (change id_of n f rs)) P
    by true is =
        let same : id ≡ n = (Decides-int_eq id n).0 is in
        subst (λ (z : ℤ). IsSomeAnd (find id_of z (change id_of n f rs)) P) (sym same) (some_here n f rs P kept (so same) (subst (λ (z : ℤ). IsSomeAnd (find id_of z rs) P) same has))
    by false is = subst (λ (o : Option Registration). IsSomeAnd o P) (sym (found_other id n f rs kept is)) has

pub some_more : (id : ℤ) (rs more : List Registration) (P : Registration → Type 0) → IsSomeAnd (find id_of id rs) P → IsSomeAnd (find id_of id (rs ++ more)) P
some_more id [] more P has = absurd has
some_more id (r ∷ rs) more P has = by (int_eq id (id_of r)) has (some_more id rs more P)
  where
    by : (b : Bool) → IsSomeAnd (cond b (Some r) (find id_of id rs)) P → (IsSomeAnd (find id_of id rs) P → IsSomeAnd (find id_of id (rs ++ more)) P) → IsSomeAnd (cond b (Some r) (find id_of id (rs ++ more))) P
    by true has later = has
    by false has later = later has
