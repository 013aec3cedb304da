-- One image is paired, or is not, and then all.
use Rattle.std.proofs.Common.{◌≡◌, ◌≢◌, ℕ, zero, suc, ◌+◌, ◌<◌, ◌⊎◌, inl, inr, ⊎_elim, Bool, true, false, List, length, sym, refl, ap, ◌∙◌, subst, arith, get_or-set_same}
use Rattle.std.specs.Prelude.{◌||◌, if◌then◌else◌, Option, Some, None, slice_get}
use Rattle.std.specs.List.{position}
use Rattle.std.proofs.lemmas.List.Quantifiers.{position-Some}
use Rattle.std.proofs.lemmas.Option.{slice_get_within}
use native.Mathlib.Decide.{dec_lt}
use Rattle.stream_pairs.specs.declared.points.StreamPoint.{StreamPoint}
use Rattle.stream_pairs.specs.declared.pairs.JoinedImage.{JoinedImage}
use Rattle.stream_pairs.specs.Pairs.{PairsState, fed_by, image_at, image_of_slot, is_fed, pair_all, pair_first, pair_image, pair_one, paired_with, slot_of, takes, with_slot}
use Rattle.stream_pairs.specs.Laws.{FeedsOne, IsLost, MayFeed, NoneWaits}
use Rattle.stream_pairs.proofs.SlotLemmas.{none_passes, changed, fed_image, fed_takes_none, taker_is_free, taker_feeds, unfed, fed, is_fed_at}

-- an image is paired
pub record Paired (i : ℕ) (s t : PairsState) : Type 0 where
  pub number : ℕ
  pub may : MayFeed i number s
  pub inside : number < length s.slots
  pub free : is_fed i s ≡ false
  pub is : t ≡ with_slot number (fed_by (Some i) (slot_of number s)) s

-- it is not, since it was lost, feeds a session, or none takes it
pub record Unpaired (i : ℕ) (s t : PairsState) : Type 0 where
  pub same : t ≡ s
  pub why : (image : JoinedImage) → slice_get s.images i ≡ Some image → image.is_lost ≡ false → is_fed i s ≡ false → (n : ℕ) → takes image.join (slot_of n s) ≡ false

module _ (i : ℕ) (s : PairsState) where
  cases_by : (image : JoinedImage) → slice_get s.images i ≡ Some image → (lost : Bool) → image.is_lost ≡ lost → (here : Bool) → is_fed i s ≡ here → (o : Option ℕ) → position (takes image.join) s.slots ≡ o
      → Unpaired i s (if lost || here then s else paired_with i o s) ⊎ Paired i s (if lost || here then s else paired_with i o s)
  cases_by image there true lost here feeds o found = inl (record { same = refl; why = λ other is kept _ _. let e : Some other ≡ Some image = sym is ∙ there in let f : other ≡ image = cc in absurd (cc) })
  cases_by image there false lost true feeds o found = inl (record { same = refl; why = λ other is kept none _. absurd (cc) })
  cases_by image there false lost false feeds None found = inl (record {
    same = refl;
    why = λ other is kept none n.
        let e : Some other ≡ Some image = sym is ∙ there in
        let f : other ≡ image = cc in
        subst (λ (x : JoinedImage). takes x.join (slot_of n s) ≡ false) (sym f) (none_passes (takes image.join) s.slots n refl found);
  })
  cases_by image there false lost false feeds (Some number) found =
      let first = position-Some (takes image.join) s.slots number None found in
      inr (record {
        number = number;
        may = record {
          image = image;
          there = there;
          kept = lost;
          least = record { takes_it = first.1; least = λ m below. first.2 m below };
        };
        inside = first.0;
        free = feeds;
        is = refl;
      })

  cases_of : (o : Option JoinedImage) → slice_get s.images i ≡ o → Unpaired i s (pair_image o i s) ⊎ Paired i s (pair_image o i s)
  cases_of None none = inl (record { same = refl; why = λ image there _ _ _. absurd (cc) })
  cases_of (Some image) there = cases_by image there image.is_lost refl (is_fed i s) refl (position (takes image.join) s.slots) refl

  pub pair_cases : Unpaired i s (pair_one i s) ⊎ Paired i s (pair_one i s)
  pair_cases = cases_of (slice_get s.images i) refl

-- what the image at each number is, once one is paired
module _ (i : ℕ) (s t : PairsState) (p : Paired i s t) where
  pub after_pair : (m j : ℕ) → image_at m t ≡ Some j → ((m ≡ p.number) × (j ≡ i)) ⊎ (image_at m s ≡ Some j)
  after_pair m j e =
      let e' : image_at m (with_slot p.number (fed_by (Some i) (slot_of p.number s)) s) ≡ Some j = sym (ap (image_at m) p.is) ∙ e in
      ⊎_elim (λ c. inl (c.0, fed_image i j (slot_of p.number s) (sym (ap image_of_slot c.2) ∙ e')))
      (λ c. inr (sym (ap image_of_slot c) ∙ e'))
      (changed p.number (fed_by (Some i) (slot_of p.number s)) s m)

  pub pair_keeps : (m j : ℕ) → image_at m s ≡ Some j → image_at m t ≡ Some j
  pair_keeps m j e =
      ⊎_elim (λ c.
      let free : image_at p.number s ≡ None = taker_is_free p.may.image.join (slot_of p.number s) p.may.least.takes_it in
      let has : image_at p.number s ≡ Some j = subst (λ (k : ℕ). image_at k s ≡ Some j) c.0 e in
      absurd (cc))
      (λ c. ap (image_at m) p.is ∙ ap image_of_slot c ∙ e)
      (changed p.number (fed_by (Some i) (slot_of p.number s)) s m)

  pub pair_feeds : image_at p.number t ≡ Some i
  pair_feeds =
      ap (image_at p.number) p.is
      ∙ ap image_of_slot (get_or-set_same s.slots p.number (fed_by (Some i) (slot_of p.number s)) None p.inside)
      ∙ taker_feeds i p.may.image.join (slot_of p.number s) p.may.least.takes_it

  pub pair_takes : (join : StreamPoint) (n : ℕ) → takes join (slot_of n s) ≡ false → takes join (slot_of n t) ≡ false
  pair_takes join n none =
      ap (λ (u : PairsState). takes join (slot_of n u)) p.is
      ∙ ⊎_elim (λ c. ap (takes join) c.2 ∙ fed_takes_none i join (slot_of p.number s)) (λ c. ap (takes join) c ∙ none) (changed p.number (fed_by (Some i) (slot_of p.number s)) s n)

  pub pair_images : t.images ≡ s.images
  pair_images = ap (λ (u : PairsState). u.images) p.is

-- ---- all images, in their order

pub first_images : (k : ℕ) (s : PairsState) → (pair_first k s).images ≡ s.images
first_images zero s = refl
first_images (suc k) s =
    ⊎_elim (λ u. ap (λ (t : PairsState). t.images) u.same) (λ p. pair_images k (pair_first k s) (pair_one k (pair_first k s)) p) (pair_cases k (pair_first k s))
    ∙ first_images k s

pub first_keeps : (k : ℕ) (s : PairsState) (m j : ℕ) → image_at m s ≡ Some j → image_at m (pair_first k s) ≡ Some j
first_keeps zero s m j e = e
first_keeps (suc k) s m j e =
    let before = first_keeps k s m j e in
    ⊎_elim (λ u. ap (image_at m) u.same ∙ before) (λ p. pair_keeps k (pair_first k s) (pair_one k (pair_first k s)) p m j before) (pair_cases k (pair_first k s))

-- an image that is paired was not fed before
one_feeds_one : (i : ℕ) (s t : PairsState) → Paired i s t → FeedsOne s → FeedsOne t
one_feeds_one i s t p feeds m n j at also =
    ⊎_elim (λ a. ⊎_elim (λ b. a.0 ∙ sym b.0) (λ b. absurd (unfed i n s p.free (b ∙ ap (λ (k : ℕ). Some k) a.1))) (after_pair i s t p n j also))
    (λ a. ⊎_elim (λ b. absurd (unfed i m s p.free (a ∙ ap (λ (k : ℕ). Some k) b.1))) (λ b. feeds m n j a b) (after_pair i s t p n j also))
    (after_pair i s t p m j at)

pub first_feeds_one : (k : ℕ) (s : PairsState) → FeedsOne s → FeedsOne (pair_first k s)
first_feeds_one zero s feeds = feeds
first_feeds_one (suc k) s feeds =
    let before = first_feeds_one k s feeds in
    ⊎_elim (λ u. subst FeedsOne (sym u.same) before) (λ p. one_feeds_one k (pair_first k s) (pair_one k (pair_first k s)) p before) (pair_cases k (pair_first k s))

-- no session has an image that was lost
abbrev pub LostFeedNone : PairsState → Type 0
LostFeedNone s = (i n : ℕ) → IsLost i s → image_at n s ≢ Some i

pub lost_there : (i : ℕ) (s t : PairsState) → t.images ≡ s.images → IsLost i s → IsLost i t
lost_there i s t same lost = record {
  image = lost.image;
  there = ap (λ (xs : List JoinedImage). slice_get xs i) same ∙ lost.there;
  lost = lost.lost;
}

-- an image is not lost and paired
lost_or_paired : (i : ℕ) (s : PairsState) (n : ℕ) → MayFeed i n s → IsLost i s → ⊥
lost_or_paired i s n may lost =
    let e : Some may.image ≡ Some lost.image = sym may.there ∙ lost.there in
    let same : may.image ≡ lost.image = cc in
    let no : may.image.is_lost ≡ true = ap (λ (x : JoinedImage). x.is_lost) same ∙ lost.lost in
    let yes = may.kept in
    cc

one_lost : (i : ℕ) (s t : PairsState) → Paired i s t → LostFeedNone s → LostFeedNone t
one_lost i s t p none j n lost at =
    let before = lost_there j t s (sym (pair_images i s t p)) lost in
    ⊎_elim (λ a. lost_or_paired i s p.number p.may (subst (λ (k : ℕ). IsLost k s) a.1 before)) (λ a. none j n before a) (after_pair i s t p n j at)

pub first_lost : (k : ℕ) (s : PairsState) → LostFeedNone s → LostFeedNone (pair_first k s)
first_lost zero s none = none
first_lost (suc k) s none =
    let before = first_lost k s none in
    ⊎_elim (λ u. subst LostFeedNone (sym u.same) before) (λ p. one_lost k (pair_first k s) (pair_one k (pair_first k s)) p before) (pair_cases k (pair_first k s))

-- of the first images none waits that a session takes
abbrev NoneOfWaits : ℕ → PairsState → Type 0
NoneOfWaits k s =
    (i : ℕ) → i < k → (n : ℕ) (image : JoinedImage) → slice_get s.images i ≡ Some image → image.is_lost ≡ false
    → is_fed i s ≡ false → takes image.join (slot_of n s) ≡ false

-- one that is not fed once another is paired was not before
was_unfed : (k : ℕ) (s t : PairsState) → Paired k s t → (i : ℕ) → is_fed i t ≡ false → (b : Bool) → is_fed i s ≡ b → is_fed i s ≡ false
was_unfed k s t p i none false is = is
was_unfed k s t p i none true is =
    let found = fed i s is in
    let still = is_fed_at i found.0 t (pair_keeps k s t p found.0 i found.1) in
    absurd (cc)

one_waits : (k : ℕ) (s t : PairsState) → Paired k s t → NoneOfWaits k s → (i : ℕ) → Dec (i < k) → i < k + 1 → (n : ℕ) (image : JoinedImage) → slice_get t.images i ≡ Some image
    → image.is_lost ≡ false → is_fed i t ≡ false → takes image.join (slot_of n t) ≡ false
one_waits k s t p none i (yes before) below n image there kept free =
    pair_takes k s t p image.join n
    (none i before n image (ap (λ (xs : List JoinedImage). slice_get xs i) (sym (pair_images k s t p)) ∙ there) kept (was_unfed k s t p i free (is_fed i s) refl))
one_waits k s t p none i (no last) below n image there kept free =
    let same : k ≡ i = omega arith in
    let has = subst (λ (j : ℕ). is_fed j t ≡ true) same (is_fed_at k p.number t (pair_feeds k s t p)) in
    absurd (cc)

one_stays : (k : ℕ) (s t : PairsState) → Unpaired k s t → NoneOfWaits k s → (i : ℕ) → Dec (i < k) → i < k + 1 → (n : ℕ) (image : JoinedImage) → slice_get t.images i ≡ Some image
    → image.is_lost ≡ false → is_fed i t ≡ false → takes image.join (slot_of n t) ≡ false
one_stays k s t u none i (yes before) below n image there kept free =
    subst (λ (x : PairsState). slice_get x.images i ≡ Some image → is_fed i x ≡ false → takes image.join (slot_of n x) ≡ false) (sym u.same) (λ at fed. none i before n image at kept fed) there free
one_stays k s t u none i (no last) below n image there kept free =
    let same : k ≡ i = omega arith in
    subst (λ (x : PairsState). slice_get x.images i ≡ Some image → is_fed i x ≡ false → takes image.join (slot_of n x) ≡ false) (sym u.same)
    (λ at fed. u.why image (subst (λ (j : ℕ). slice_get s.images j ≡ Some image) (sym same) at) kept (subst (λ (j : ℕ). is_fed j s ≡ false) (sym same) fed) n) there free

first_waits : (k : ℕ) (s : PairsState) → NoneOfWaits k (pair_first k s)
first_waits zero s i below = absurd (omega arith)
first_waits (suc k) s i below =
    let before = first_waits k s in
    ⊎_elim (λ u. one_stays k (pair_first k s) (pair_one k (pair_first k s)) u before i (dec_lt i k) (omega arith))
    (λ p. one_waits k (pair_first k s) (pair_one k (pair_first k s)) p before i (dec_lt i k) (omega arith))
    (pair_cases k (pair_first k s))

pub none_waits : (s : PairsState) → NoneWaits (pair_all s)
none_waits s i n image there kept free =
    let at : slice_get s.images i ≡ Some image = ap (λ (xs : List JoinedImage). slice_get xs i) (sym (first_images (length s.images) s)) ∙ there in
    first_waits (length s.images) s i (slice_get_within s.images i image at) n image there kept free

pub may_feed : (i n : ℕ) (s : PairsState) → image_at n s ≢ Some i → image_at n (pair_one i s) ≡ Some i → MayFeed i n s
may_feed i n s before at =
    ⊎_elim (λ u. absurd (before (sym (ap (image_at n) u.same) ∙ at)))
    (λ p. ⊎_elim (λ a. subst (λ (k : ℕ). MayFeed i k s) (sym a.0) p.may) (λ a. absurd (before a)) (after_pair i s (pair_one i s) p n i at))
    (pair_cases i s)
