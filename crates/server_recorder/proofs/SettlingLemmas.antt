-- The first session that is due by time alone.
use Rattle.std.proofs.Common.{◌≡◌, ℕ, ◌+◌, ◌<◌, ◌≤◌, Bool, List, length, get_or, take, sym, ◌∙◌, subst, arith}
use Rattle.std.specs.Prelude.{◌||◌, Option, None, Some, min}
use Rattle.std.specs.List.{list_any}
use Rattle.std.proofs.Math.Nat.{min-eq_left}
use Rattle.std.proofs.lemmas.List.Folds.{list_any_more}
use native.Mathlib.Decide.{dec_le}
use Rattle.server_recorder.specs.Settling.{PassesFirst, sooner}

-- a test that answers as another one is passed first by the same number
same_first : (p q : ℕ → Bool) (o : Option ℕ) → ((m : ℕ) → q m ≡ p m) → PassesFirst p o → PassesFirst q o
same_first p q None same never = λ m. same m ∙ never m
same_first p q (Some n) same first = (same n ∙ first.0, λ m below. same m ∙ first.1 m below)

earlier : (p q : ℕ → Bool) (a b : ℕ) → PassesFirst p (Some a) → PassesFirst q (Some b) → a ≤ b → PassesFirst (λ m. p m || q m) (Some a)
earlier p q a b one two le = (grind (arith, one.0), λ m below. grind (arith, one.1 m below, two.1 m (omega arith)))

later_one : (p q : ℕ → Bool) (a b : ℕ) → PassesFirst p (Some a) → PassesFirst q (Some b) → b ≤ a → PassesFirst (λ m. p m || q m) (Some b)
later_one p q a b one two le = (grind (arith, two.0), λ m below. grind (arith, two.1 m below, one.1 m (omega arith)))

both : (p q : ℕ → Bool) (a b : ℕ) → PassesFirst p (Some a) → PassesFirst q (Some b) → Dec (a ≤ b) → PassesFirst (λ m. p m || q m) (Some (min a b))
both p q a b one two (yes le) = subst (λ (n : ℕ). PassesFirst (λ m. p m || q m) (Some n)) (sym (min-eq_left le)) (earlier p q a b one two le)
both p q a b one two (no more) = let least : min a b ≡ b = omega arith in subst (λ (n : ℕ). PassesFirst (λ m. p m || q m) (Some n)) (sym least) (later_one p q a b one two (omega arith))

-- either of two tests is passed first by the lesser of the numbers that pass each first
first_of_two : (p q : ℕ → Bool) (a b : Option ℕ) → PassesFirst p a → PassesFirst q b → PassesFirst (λ m. p m || q m) (sooner a b)
first_of_two p q None None one two = λ m. grind (arith, one m, two m)
first_of_two p q None (Some b) one two = (grind (arith, two.0), λ m below. grind (arith, one m, two.1 m below))
first_of_two p q (Some a) None one two = (grind (arith, one.0), λ m below. grind (arith, one.1 m below, two m))
first_of_two p q (Some a) (Some b) one two = both p q a b one two (dec_le a b)

-- one element more, at a step of the loop
pub first_more : {X : Type 0} (test : ℕ → X → Bool) (xs : List X) (i : ℕ) (d : X) (next own : Option ℕ) → i < length xs
    → PassesFirst (λ m. list_any (test m) (take i xs)) next → PassesFirst (λ m. test m (get_or xs i d)) own
    → PassesFirst (λ m. list_any (test m) (take (i + 1) xs)) (sooner next own)
first_more test xs i d next own below before here =
    same_first (λ m. list_any (test m) (take i xs) || test m (get_or xs i d)) (λ m. list_any (test m) (take (i + 1) xs)) (sooner next own)
    (λ m. list_any_more (test m) xs i d below)
    (first_of_two (λ m. list_any (test m) (take i xs)) (λ m. test m (get_or xs i d)) next own before here)
