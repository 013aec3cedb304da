-- Passes that keep their numbers are as many as were made.
use Rattle.std.proofs.Common.{◌≡◌, ◌≢◌, ◌++◌, ◌∙◌, ℕ, zero, suc, Bool, true, false, List, [], ◌∷◌, map, sym, refl, ap, subst, arith, eqb, eq-eqb}
use Rattle.std.specs.Prelude.{◌||◌, ◌==◌}
use mathlib.Core.Logic.{dite}
use native.Mathlib.Decide.{ℕ_discrete}
use Rattle.atomic_table.specs.Seated.{TableId}
use Rattle.call_history.specs.Passes.{HasEach, has_number, new_pass, new_passes}
use Rattle.call_history.specs.Values.{PassView}
use Rattle.archive_lock.specs.declared.history.Made.{Made}

-- ---- the numbers alone tell which passes are there

abbrev is_among : ℕ → List ℕ → Bool
is_among n [] = false
is_among n (x ∷ xs) = x == n || is_among n xs

has_among : (n : ℕ) (ps : List (PassView Made)) → has_number n ps ≡ is_among n (map (λ (p : PassView Made). p.number) ps)
has_among n [] = refl
has_among n (p ∷ ps) = ap (λ (b : Bool). p.number == n || b) (has_among n ps)

pub still_each : (count : ℕ) (olds news : List (PassView Made)) → map (λ (p : PassView Made). p.number) news ≡ map (λ (p : PassView Made). p.number) olds → HasEach count olds → HasEach count news
still_each count olds news same each = λ n below. has_among n news ∙ ap (is_among n) same ∙ sym (has_among n olds) ∙ each n below

-- ---- and those that were made are all

or_true : (b c : Bool) → c ≡ true → b || c ≡ true
or_true true c is = refl
or_true false c is = is

either : (b c d : Bool) → b || c ≡ true → (c ≡ true → d ≡ true) → b || d ≡ true
either true c d is more = refl
either false c d is more = more is

has_last : (n : ℕ) (ps : List (PassView Made)) (p : PassView Made) → p.number ≡ n → has_number n (ps ++ p ∷ []) ≡ true
has_last n [] p is = rw (eq-eqb p.number n is) refl
has_last n (q ∷ ps) p is = or_true (eqb q.number n) (has_number n (ps ++ p ∷ [])) (has_last n ps p is)

has_still : (n : ℕ) (ps : List (PassView Made)) (p : PassView Made) → has_number n ps ≡ true → has_number n (ps ++ p ∷ []) ≡ true
has_still n [] p has = absurd cc
has_still n (q ∷ ps) p has = either (eqb q.number n) (has_number n ps) (has_number n (ps ++ p ∷ [])) has (has_still n ps p)

made_each : (table : TableId) (count : ℕ) → HasEach {E = Made} count (new_passes table count)
made_each table zero = λ n below. absurd (omega arith)
made_each table (suc k) = λ n below. dite (ℕ_discrete n k)
    (λ (same : n ≡ k). has_last n (new_passes table k) (new_pass table k) (sym same))
    (λ (ne : n ≢ k). has_still n (new_passes table k) (new_pass table k) (made_each table k n (omega arith)))

pub all_made : (table : TableId) (count : ℕ) (passes : List (PassView Made)) → passes ≡ new_passes table count → HasEach count passes
all_made table count passes is = subst (HasEach count) (sym is) (made_each table count)
