-- Ends of live frames, by rising position.
use Rattle.std.proofs.Common.{◌≡◌, ◌==◌, ◌||◌, ℕ, Bool, true, false, List, [], ◌∷◌, refl, sym, ap, ◌∙◌, arith}
use Rattle.std.specs.Ordering.{nat_cmp, match_ordering, is_eq}
use Rattle.std.specs.BTreeMap.{is_at}
use Rattle.std.specs.BTreeSet.{insert_key}
use Rattle.frame_core.proofs.OrderLemmas.{by_cmp}
use Rattle.merge_core.specs.Merge.{is_among}

pub same_at : (q k : ℕ) → is_at (nat_cmp q) k ≡ (k == q)
same_at q k = by_cmp (λ o. is_eq o ≡ (k == q)) q k (λ h. grind arith) (λ h. grind arith) (λ h. grind arith)

once : (a b : Bool) → (a || b) ≡ (a || (a || b))
once true b = refl
once false b = refl

swapped : (a b c : Bool) → (a || (b || c)) ≡ (b || (a || c))
swapped true true c = refl
swapped true false c = refl
swapped false b c = refl

-- a number that is put among others is one of them, and no other comes
pub among_inserted : (ks : List ℕ) (k q : ℕ) → is_among q (insert_key nat_cmp ks k) ≡ (is_at (nat_cmp q) k || is_among q ks)
among_inserted [] k q = refl
among_inserted (x ∷ xs) k q =
    by_cmp (λ o. is_among q (match_ordering o (k ∷ x ∷ xs) (x ∷ xs) (x ∷ insert_key nat_cmp xs k)) ≡ (is_at (nat_cmp q) k || is_among q (x ∷ xs))) k x
    (λ h. refl)
    (λ h. once (is_at (nat_cmp q) x) (is_among q xs) ∙ ap (λ y. is_at (nat_cmp q) y || (is_at (nat_cmp q) x || is_among q xs)) (sym h))
    (λ h. ap (λ b. is_at (nat_cmp q) x || b) (among_inserted xs k q) ∙ swapped (is_at (nat_cmp q) x) (is_at (nat_cmp q) k) (is_among q xs))
