-- Sessions by their numbers, and which image feeds which.
use Rattle.std.proofs.Common.{◌≡◌, ◌≢◌, ℕ, ◌<◌, ◌≤◌, ◌⊎◌, inl, inr, Bool, true, false, cond, List, length, get_or, set, sym, refl, ap, ◌∙◌, subst, arith, get_or-set_same, get_or-set_other, eq-eqb}
use Rattle.std.specs.Prelude.{◌&&◌, not, ℤ, Option, Some, None, is_some, nat_lt}
use Rattle.std.specs.List.{position, position_or_len}
use Rattle.std.proofs.lemmas.Bool.{ltb-false, eqb-true}
use Rattle.std.proofs.lemmas.List.{get_or_past, set_past}
use Rattle.std.proofs.lemmas.List.Sums.{fails_before_first}
use Rattle.std.proofs.lemmas.List.Quantifiers.{position-Some}
use native.Mathlib.Decide.{dec_le, ℕ_discrete}
use Rattle.stream_pairs.specs.declared.points.StreamPoint.{StreamPoint}
use Rattle.stream_pairs.specs.declared.pairs.SessionSlot.{SessionSlot}
use Rattle.stream_pairs.specs.Pairs.{PairsState, ended, fed_by, feeds, image_at, image_of_slot, is_fed, is_index, is_point, moved, slot_of, takes, with_slot}

-- ---- where a test first holds

first_none : (b : Bool) (i : ℕ) → cond b (Some i) None ≡ None → b ≡ false
first_none true i e = cc
first_none false i e = refl

past_first : {X : Type 0} (p : Option X → Bool) (xs : List (Option X)) (n : ℕ) → p None ≡ false → length xs ≤ position_or_len p xs → Dec (length xs ≤ n) → p (get_or xs n None) ≡ false
past_first {X = X} p xs n none all (yes past) = subst (λ (x : Option X). p x ≡ false) (sym (get_or_past xs n None past)) none
past_first p xs n none all (no inside) = fails_before_first p xs n None (omega arith)

-- where a test holds nowhere
pub none_passes : {X : Type 0} (p : Option X → Bool) (xs : List (Option X)) (n : ℕ) → p None ≡ false → position p xs ≡ None → p (get_or xs n None) ≡ false
none_passes p xs n none e =
    past_first p xs n none (ltb-false (position_or_len p xs) (length xs) (first_none (nat_lt (position_or_len p xs) (length xs)) (position_or_len p xs) e)) (dec_le (length xs) n)

pub is_none : {X : Type 0} (o : Option X) → is_some o ≡ false → o ≡ None
is_none None e = refl
is_none (Some x) e = cc

-- ---- one session is changed

-- the session of a number, once another stands there
module _ (n : ℕ) (slot : Option SessionSlot) (s : PairsState) where
  changed_at : (m : ℕ) → Dec (m ≡ n) → Dec (length s.slots ≤ n)
      → ((m ≡ n) × (n < length s.slots) × (slot_of m (with_slot n slot s) ≡ slot)) ⊎ (slot_of m (with_slot n slot s) ≡ slot_of m s)
  changed_at m (no other) _ = inr (get_or-set_other s.slots n m slot None other)
  changed_at m (yes same) (yes past) = inr (ap (λ (xs : List (Option SessionSlot)). get_or xs m None) (set_past s.slots n slot past))
  changed_at m (yes same) (no inside) = inl (same, omega arith, ap (λ (k : ℕ). get_or (set s.slots n slot) k None) same ∙ get_or-set_same s.slots n slot None (omega arith))

  pub changed : (m : ℕ) → ((m ≡ n) × (n < length s.slots) × (slot_of m (with_slot n slot s) ≡ slot)) ⊎ (slot_of m (with_slot n slot s) ≡ slot_of m s)
  changed m = changed_at m (ℕ_discrete m n) (dec_le (length s.slots) n)

-- ---- images of sessions

pub moved_image : (position : ℤ) (slot : Option SessionSlot) → image_of_slot (moved position slot) ≡ image_of_slot slot
moved_image position None = refl
moved_image position (Some slot) = refl

pub ended_image : (slot : Option SessionSlot) → image_of_slot (ended slot) ≡ image_of_slot slot
ended_image None = refl
ended_image (Some slot) = refl

pub unfed_image : (slot : Option SessionSlot) → image_of_slot (fed_by None slot) ≡ None
unfed_image None = refl
unfed_image (Some slot) = refl

pub fed_image : (i j : ℕ) (slot : Option SessionSlot) → image_of_slot (fed_by (Some i) slot) ≡ Some j → j ≡ i
fed_image i j None e = cc
fed_image i j (Some slot) e = cc

-- a session that has an image takes none
none_taken : (a b : Bool) → ((a && false) && b) ≡ false
none_taken true b = refl
none_taken false b = refl

pub fed_takes_none : (i : ℕ) (join : StreamPoint) (slot : Option SessionSlot) → takes join (fed_by (Some i) slot) ≡ false
fed_takes_none i join None = refl
fed_takes_none i join (Some slot) = none_taken slot.is_open (is_point join slot.point)

free_at : (a : Bool) (image : Option ℕ) (b : Bool) → ((a && not (is_some image)) && b) ≡ true → image ≡ None
free_at a None b e = refl
free_at true (Some i) b e = cc
free_at false (Some i) b e = cc

-- a session that takes an image has none
pub taker_is_free : (join : StreamPoint) (slot : Option SessionSlot) → takes join slot ≡ true → image_of_slot slot ≡ None
taker_is_free join None e = refl
taker_is_free join (Some slot) e = free_at slot.is_open slot.image (is_point join slot.point) e

-- a session that takes an image is there
pub taker_feeds : (i : ℕ) (join : StreamPoint) (slot : Option SessionSlot) → takes join slot ≡ true → image_of_slot (fed_by (Some i) slot) ≡ Some i
taker_feeds i join None e = cc
taker_feeds i join (Some slot) e = refl

-- ---- an image that feeds a session

pub index_is : (i : ℕ) (o : Option ℕ) → is_index i o ≡ true → o ≡ Some i
index_is i None e = cc
index_is i (Some j) e = ap (λ (k : ℕ). Some k) (eqb-true j i e)

pub feeds_at : (i n : ℕ) (s : PairsState) → image_at n s ≡ Some i → feeds i (slot_of n s) ≡ true
feeds_at i n s e = ap (is_index i) e ∙ eq-eqb i i refl

-- an image that feeds no session
pub unfed : (i n : ℕ) (s : PairsState) → is_fed i s ≡ false → image_at n s ≢ Some i
unfed i n s none e =
    let no = none_passes (feeds i) s.slots n refl (is_none (position (feeds i) s.slots) none) in
    let yes = feeds_at i n s e in
    cc

first_some : {X : Type 0} (p : Option X → Bool) (xs : List (Option X)) (o : Option ℕ) → position p xs ≡ o → is_some o ≡ true → (n : ℕ) × (p (get_or xs n None) ≡ true)
first_some p xs None e there = cc
first_some p xs (Some n) e there = (n, (position-Some p xs n None e).1)

-- an image that feeds one
pub fed : (i : ℕ) (s : PairsState) → is_fed i s ≡ true → (n : ℕ) × (image_at n s ≡ Some i)
fed i s there = let found = first_some (feeds i) s.slots (position (feeds i) s.slots) refl there in (found.0, index_is i (image_at found.0 s) found.1)

is_fed_if : (i n : ℕ) (s : PairsState) → image_at n s ≡ Some i → (b : Bool) → is_fed i s ≡ b → is_fed i s ≡ true
is_fed_if i n s e true is = is
is_fed_if i n s e false is = absurd (unfed i n s is e)

pub is_fed_at : (i n : ℕ) (s : PairsState) → image_at n s ≡ Some i → is_fed i s ≡ true
is_fed_at i n s e = is_fed_if i n s e (is_fed i s) refl
