-- Lists that a loop over seats makes, by one seat more.
use Rattle.std.proofs.Common.{◌≡◌, ◌∙◌, ◌+◌, ◌<◌, ℕ, Bool, true, false, List, [], ◌∷◌, ◌++◌, Option, Some, None, length, take, get_or, sym, ap, ap₂, refl, arith, append-nil, map-id, take_all}
use Rattle.std.specs.Prelude.{◌||◌, if◌then◌else◌, Result, Ok, Err, is_ok, cond, filter, map, option_to_list, slice_set}
use Rattle.std.specs.Result.{result_ok}
use Rattle.std.specs.List.{filter_map, range_with_len}
use Rattle.std.proofs.lemmas.List.{take_more, take_more_set}
use Rattle.std.proofs.lemmas.List.Elements.{filter_map-append}
use Rattle.std.proofs.lemmas.List.FromFn.{filter_of_map_range_with_len_more, map-range_with_len_more}

-- a value is written for each number below a bound
pub value_more : {X : Type 0} (f : ℕ → X) (xs : List X) (n : ℕ) (x : X) → n < length xs → take n xs ≡ map f (range_with_len 0 n) → x ≡ f n
    → take (n + 1) (slice_set xs n x) ≡ map f (range_with_len 0 (n + 1))
value_more f xs n x below before is =
    take_more_set xs n x below
    ∙ (ap₂ (λ front y. front ++ y ∷ []) before is ∙ sym (map-range_with_len_more f 0 n n (omega arith)))

-- the numbers below a bound that pass a test
pub tested_more : (test : ℕ → Bool) (n : ℕ) → filter test (range_with_len 0 (n + 1)) ≡ filter test (range_with_len 0 n) ++ cond (test n) (n ∷ []) []
tested_more test n =
    ap (filter test) (sym (map-id (range_with_len 0 (n + 1))))
    ∙ (filter_of_map_range_with_len_more test (λ x. x) 0 n n (omega arith) ∙ ap (λ xs. filter test xs ++ cond (test n) (n ∷ []) []) (map-id (range_with_len 0 n)))

pub passing_more : (test : ℕ → Bool) (n : ℕ) (xs : List ℕ) → test n ≡ true → xs ≡ filter test (range_with_len 0 n) → xs ++ n ∷ [] ≡ filter test (range_with_len 0 (n + 1))
passing_more test n xs passes before = ap₂ (λ ys b. ys ++ cond b (n ∷ []) []) before (sym passes) ∙ sym (tested_more test n)

pub failing_more : (test : ℕ → Bool) (n : ℕ) (xs : List ℕ) → test n ≡ false → xs ≡ filter test (range_with_len 0 n) → xs ≡ filter test (range_with_len 0 (n + 1))
failing_more test n xs fails before = sym (append-nil xs) ∙ (ap₂ (λ ys b. ys ++ cond b (n ∷ []) []) before (sym fails) ∙ sym (tested_more test n))

-- what a function gives of the first elements of a list
gathered_more : {X Y : Type 0} (h : X → Option Y) (xs : List X) (i : ℕ) (d : X) → i < length xs → filter_map h (take (i + 1) xs) ≡ filter_map h (take i xs) ++ filter_map h (get_or xs i d ∷ [])
gathered_more h xs i d below = ap (filter_map h) (take_more xs i d below) ∙ filter_map-append h (take i xs) (get_or xs i d ∷ [])

gathers : {X Y : Type 0} (h : X → Option Y) (x : X) (o : Option Y) → h x ≡ o → filter_map h (x ∷ []) ≡ option_to_list o
gathers h x None is = rw is refl
gathers h x (Some y) is = rw is refl

pub given_more : {X Y : Type 0} (h : X → Option Y) (xs : List X) (i : ℕ) (d : X) (ys : List Y) (y : Y) → i < length xs → h (get_or xs i d) ≡ Some y → ys ≡ filter_map h (take i xs)
    → ys ++ y ∷ [] ≡ filter_map h (take (i + 1) xs)
given_more h xs i d ys y below gives before = ap₂ (λ zs us. zs ++ us) before (sym (gathers h (get_or xs i d) (Some y) gives)) ∙ sym (gathered_more h xs i d below)

pub withheld_more : {X Y : Type 0} (h : X → Option Y) (xs : List X) (i : ℕ) (d : X) (ys : List Y) → i < length xs → h (get_or xs i d) ≡ None → ys ≡ filter_map h (take i xs)
    → ys ≡ filter_map h (take (i + 1) xs)
withheld_more h xs i d ys below gives before = sym (append-nil ys) ∙ (ap₂ (λ zs us. zs ++ us) before (sym (gathers h (get_or xs i d) None gives)) ∙ sym (gathered_more h xs i d below))

-- all of a list was written
pub all_written : {X : Type 0} (f : ℕ → X) (xs : List X) (n m : ℕ) → length xs ≡ m → n ≡ m → take n xs ≡ map f (range_with_len 0 n) → xs ≡ map f (range_with_len 0 m)
all_written f xs n m long is written = sym (take_all n xs (omega (arith, long, is))) ∙ (written ∙ ap (λ k. map f (range_with_len 0 k)) is)

-- all numbers were tested
pub all_tested : (test : ℕ → Bool) (xs : List ℕ) (n m : ℕ) → n ≡ m → xs ≡ filter test (range_with_len 0 n) → xs ≡ filter test (range_with_len 0 m)
all_tested test xs n m is tested = tested ∙ ap (λ k. filter test (range_with_len 0 k)) is

-- ---- what the branches of a loop's body do

-- either of two tests, where the second is made if the first fails
pub either_first : (a b r : Bool) → a ≡ true → r ≡ a → r ≡ (a || b)
either_first true b r so is = is
either_first false b r so is = absurd cc

pub either_second : (a b r : Bool) → a ≡ false → r ≡ b → r ≡ (a || b)
either_second false b r so is = is
either_second true b r so is = absurd cc

-- what was pushed stands behind
pub pushed : {X U E : Type 0} (r : Result U E) (o : Option U) (u : U) (old new : List X) (x : X) → new ≡ (if is_ok r then old ++ x ∷ [] else old) → o ≡ result_ok r → o ≡ Some u → new ≡ old ++ x ∷ []
pushed (Ok v) o u old new x is value some = is
pushed (Err e) o u old new x is value some = absurd cc
