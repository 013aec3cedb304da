-- Lists of positions that never fall, and what is known of each slot.
use Rattle.std.proofs.Common.{◌≡◌, ℕ, ◌-◌, ◌<◌, ◌≤◌, ◌≤ℤ◌, ℤ, pos, cond, eqb, List, [], ◌∷◌, ◌++◌, length, sym, refl, ap, ◌∙◌, subst, arith, length-append, eq-eqb, ne_eqb}
use Rattle.std.specs.Prelude.{◌≢◌, Contains, Option, Some, None, IfSome}
use Rattle.std.proofs.lemmas.Int.{ints}
use Rattle.std.proofs.lemmas.List.{get_or_at, get_or_append_left, get_or_default}
use Rattle.std.proofs.lemmas.List.Elements.{Contains-get_or}
use native.Mathlib.Decide.{dec_le}
use Rattle.position_board.specs.Positions.{position_at, last_position, NeverFall}

-- the last of a list with one more position
pub last_push : (xs : List ℤ) (x : ℤ) → last_position (xs ++ x ∷ []) ≡ x
last_push xs x = let long = length-append xs (x ∷ []) in get_or_at xs x [] (pos 0) (length (xs ++ x ∷ []) - 1) (omega arith)

pushed : (xs : List ℤ) (x : ℤ) → NeverFall xs → last_position xs ≤ℤ x → (i j : ℕ) → i ≤ j → j < length (xs ++ x ∷ []) → Dec (length xs ≤ j) → Dec (length xs ≤ i)
    → position_at i (xs ++ x ∷ []) ≤ℤ position_at j (xs ++ x ∷ [])
pushed xs x rising above i j le inside (no before) _ =
    let a = get_or_append_left xs (x ∷ []) (pos 0) i (omega arith) in
    let b = get_or_append_left xs (x ∷ []) (pos 0) j (omega arith) in
    rw (a, b) (rising i j le (omega arith))
pushed xs x rising above i j le inside (yes end) (no before) =
    let long = length-append xs (x ∷ []) in
    let a = get_or_append_left xs (x ∷ []) (pos 0) i (omega arith) in
    let b = get_or_at xs x [] (pos 0) j (omega arith) in
    let c = rising i (length xs - 1) (omega arith) (omega arith) in
    rw (a, b) (omega (arith, ints))
pushed xs x rising above i j le inside (yes end) (yes there) =
    let long = length-append xs (x ∷ []) in
    let same : i ≡ j = omega arith in
    let a = ap (λ (k : ℕ). position_at k (xs ++ x ∷ [])) same in
    omega (arith, ints)

-- a list that never falls and one more position that is not below its last
pub push_rises : (xs : List ℤ) (x : ℤ) → NeverFall xs → last_position xs ≤ℤ x → NeverFall (xs ++ x ∷ [])
push_rises xs x rising above i j le inside = pushed xs x rising above i j le inside (dec_le (length xs) j) (dec_le (length xs) i)

-- one position never falls
pub one_rises : (x : ℤ) → NeverFall (x ∷ [])
one_rises x i j le inside = let a : i ≡ 0 = omega arith in let b : j ≡ 0 = omega arith in rw (a, b) (omega (arith, ints))

-- a position of a list that never falls is not above its last
pub below_last : (xs : List ℤ) (x : ℤ) → NeverFall xs → Contains xs x → x ≤ℤ last_position xs
below_last xs x rising among =
    let inside = among.1 in
    let is : position_at among.0 xs ≡ x = sym (get_or_default xs among.0 x (pos 0) inside) ∙ among.2 in
    subst (λ (y : ℤ). y ≤ℤ last_position xs) is (rising among.0 (length xs - 1) (omega arith) (omega arith))

-- where a list has a position, it has its last
pub last_among : (xs : List ℤ) (x : ℤ) → Contains xs x → Contains xs (last_position xs)
last_among xs x among = let inside = among.1 in Contains-get_or xs (length xs - 1) (pos 0) (omega arith)

-- a fact for each slot, but for one of them
abbrev pub but_at : {X : Type 0} → ℕ → X → (ℕ → X) → ℕ → X
but_at slot x f k = cond (eqb k slot) x (f k)

module _ {X : Type 0} (slot : ℕ) (x : X) (f : ℕ → X) where
  pub but_here : but_at slot x f slot ≡ x
  but_here = ap (λ b. cond b x (f slot)) (eq-eqb slot slot refl)

  pub but_else : (k : ℕ) → k ≢ slot → but_at slot x f k ≡ f k
  but_else k other = ap (λ b. cond b x (f k)) (ne_eqb k slot other)

-- what follows from a fact of what may be there
pub if_some : {X : Type 0} {P Q : X → Type 0} (o : Option X) → ((x : X) → P x → Q x) → IfSome o P → IfSome o Q
if_some None f p = tt
if_some (Some x) f p = f x p
