-- Frames that are held, where one is put in or taken out.
use Rattle.std.proofs.Common.{◌≡◌, ◌||◌, ℕ, Bool, true, false, List, [], ◌∷◌, Option, None, Some, is_some, sym, subst, if◌then◌else◌, nat_lt, length, refl, ap, rules}
use Rattle.std.specs.Prelude.{nat_le}
use Rattle.std.specs.Ordering.{nat_cmp, match_ordering, is_eq}
use Rattle.std.specs.Prelude.{cond}
use Rattle.std.specs.List.{AllByRecursion}
use Rattle.std.proofs.lemmas.Option.{same_Some}
use Rattle.std.specs.Map.{lookup, remove_entry}
use Rattle.std.specs.BTreeMap.{insert_entry, is_at}
use Rattle.frame_core.specs.declared.frame.Frame.{Frame}
use Rattle.frame_core.proofs.OrderLemmas.{by_cmp, equal_cmp, greater_cmp}
use Rattle.merge_core.specs.declared.merge.Offered.TheVariants.{Held, Ignored, Full}
use Rattle.merge_core.specs.Merge.{Merging, offered_at, held_at}

-- what holds of each held frame and of one more holds of each where that one is put in
pub all_insert : (P : ℕ × Frame → Type 0) (es : List (ℕ × Frame)) (p : ℕ) (f : Frame) → P (p, f) → AllByRecursion P es
    → AllByRecursion P (insert_entry nat_cmp es p f)
all_insert P [] p f one all = (one, all)
all_insert P (e ∷ es) p f one all =
    by_cmp (λ o. AllByRecursion P (match_ordering o ((p, f) ∷ e ∷ es) ((e.0, f) ∷ es) (e ∷ insert_entry nat_cmp es p f))) p e.0
    (λ h. (one, all))
    (λ h. (subst (λ k. P (k, f)) h one, all.1))
    (λ h. (all.0, all_insert P es p f one all.1))

-- and where one is taken out
pub all_remove : (P : ℕ × Frame → Type 0) (es : List (ℕ × Frame)) (p : ℕ) → AllByRecursion P es
    → AllByRecursion P (remove_entry (is_at (nat_cmp p)) es)
all_remove P [] p all = all
all_remove P (e ∷ es) p all =
    by_cmp (λ o. AllByRecursion P (cond (is_eq o) es (e ∷ remove_entry (is_at (nat_cmp p)) es))) p e.0
    (λ h. (all.0, all_remove P es p all.1)) (λ h. all.1) (λ h. (all.0, all_remove P es p all.1))

-- and it holds of the frame that is held at a position
pub all_found : (P : ℕ × Frame → Type 0) (es : List (ℕ × Frame)) (p : ℕ) (f : Frame) → AllByRecursion P es
    → lookup (is_at (nat_cmp p)) es ≡ Some f → P (p, f)
all_found P [] p f all found = search rules
all_found P (e ∷ es) p f all found =
    by_cmp (λ o. cond (is_eq o) (Some e.1) (lookup (is_at (nat_cmp p)) es) ≡ Some f → P (p, f)) p e.0
    (λ h. λ found. all_found P es p f all.1 found)
    (λ h. λ found. subst (λ k. P (k, f)) (sym h) (subst (λ x. P (e.0, x)) (same_Some _ _ found) all.0))
    (λ h. λ found. all_found P es p f all.1 found)
    found

-- what is put in where nothing was, and taken out, leaves what was there
pub remove_inserted : (es : List (ℕ × Frame)) (p : ℕ) (f : Frame) → lookup (is_at (nat_cmp p)) es ≡ None
    → remove_entry (is_at (nat_cmp p)) (insert_entry nat_cmp es p f) ≡ es
remove_inserted [] p f none = rw (equal_cmp p p refl) refl
remove_inserted (e ∷ es) p f none =
    by_cmp (λ o. cond (is_eq o) (Some e.1) (lookup (is_at (nat_cmp p)) es) ≡ None
    → remove_entry (is_at (nat_cmp p)) (match_ordering o ((p, f) ∷ e ∷ es) ((e.0, f) ∷ es) (e ∷ insert_entry nat_cmp es p f)) ≡ e ∷ es) p e.0
    (λ h. λ none. rw (equal_cmp p p refl) refl)
    (λ h. λ none. search (rules, none))
    (λ h. λ none. rw (greater_cmp p e.0 h) (ap (λ rest. e ∷ rest) (remove_inserted es p f none)))
    none

held_when : (below full : Bool) (found : Option Frame) → (if below || is_some found then Ignored else (if full then Full else Held)) ≡ Held → found ≡ None
held_when below full None held = refl
held_when true full (Some f) held = search (rules, held)
held_when false full (Some f) held = search (rules, held)

-- where a frame is held anew, none was
pub none_before : (m : Merging) (p : ℕ) → offered_at p m ≡ Held → held_at p m ≡ None
none_before m p held = held_when (nat_lt p m.cursor) (nat_le 4096 (length m.held)) (held_at p m) held
