-- What comes, one after another.
use Rattle.std.proofs.Common.{◌≡◌, ◌≢◌, ℕ, zero, suc, ◌⊎◌, inl, inr, ⊎_elim, Bool, true, false, List, [], ◌∷◌, ◌++◌, length, get_or, set, ◌<◌, ◌≤◌, sym, refl, ap, ◌∙◌, subst, arith, get_or-set_same}
use Rattle.std.specs.Prelude.{ℤ, Option, Some, None, is_some, nat_lt, slice_get, replicate, if◌then◌else◌}
use Rattle.std.specs.List.{position, position_or_len}
use Rattle.std.proofs.lemmas.List.{get_or_past}
use Rattle.std.proofs.lemmas.Bool.Decides.{nat_tests}
use native.Mathlib.Decide.{dec_le, ℕ_discrete}
use Rattle.stream_pairs.specs.declared.points.StreamPoint.{StreamPoint}
use Rattle.stream_pairs.specs.declared.pairs.SessionSlot.{SessionSlot}
use Rattle.stream_pairs.specs.declared.pairs.JoinedImage.{JoinedImage}
use Rattle.stream_pairs.specs.Pairs.{PairsState, after_joined, after_opened, after_refused, after_settled, after_stopped, ended, ended_at, fed_by, image_at, image_of_slot, joined, lost, may_join, moved, no_pairs, with_new_session, opened_slot, is_vacant, new_image, pair_all, put_image, slot_of, with_slot, without_image, writes}
use Rattle.stream_pairs.specs.Laws.{Coming, opens, joins, settles, stops, refuses, FeedsOne, IsLost, NoneWaits, PairStays, after_coming, after_comings}
use Rattle.stream_pairs.proofs.SlotLemmas.{changed, moved_image, ended_image, unfed_image, is_none}
use Rattle.stream_pairs.proofs.PairLemmas.{LostFeedNone, first_images, first_keeps, first_feeds_one, first_lost, lost_there, none_waits}

-- each session has the image that it had, and the images are the same
pub record SameImages (s t : PairsState) : Type 0 where
  pub image : (m : ℕ) → image_at m t ≡ image_at m s
  pub images : t.images ≡ s.images

with_same : (n : ℕ) (slot : Option SessionSlot) (s : PairsState) → image_of_slot slot ≡ image_at n s → SameImages s (with_slot n slot s)
with_same n slot s same = record {
  image = λ m. ⊎_elim (λ c. ap image_of_slot c.2 ∙ same ∙ ap (λ (k : ℕ). image_at k s) (sym c.0)) (λ c. ap image_of_slot c) (changed n slot s m);
  images = refl;
}

unchanged : (s : PairsState) → SameImages s s
unchanged s = record { image = λ m. refl; images = refl }

noted_by : (n : ℕ) (session recording : ℤ) (point : StreamPoint) (s : PairsState) (there : Bool) → is_some (slot_of n s) ≡ there
    → SameImages s (if there then s else with_slot n (Some (opened_slot session recording point)) s)
noted_by n session recording point s true e = unchanged s
noted_by n session recording point s false e = with_same n (Some (opened_slot session recording point)) s (sym (ap image_of_slot (is_none (slot_of n s) e)))

pub noted_same : (n : ℕ) (session recording : ℤ) (point : StreamPoint) (s : PairsState) → SameImages s (with_new_session n (opened_slot session recording point) s)
noted_same n session recording point s = noted_by n session recording point s (is_some (slot_of n s)) refl

settled_same : (n : ℕ) (position : ℤ) (s : PairsState) → SameImages s (after_settled n position s)
settled_same n position s = with_same n (moved position (slot_of n s)) s (moved_image position (slot_of n s))

pub ended_same : (o : Option ℕ) (s : PairsState) → SameImages s (ended_at o s)
ended_same None s = unchanged s
ended_same (Some n) s = with_same n (ended (slot_of n s)) s (ended_image (slot_of n s))

-- ---- where nothing new is fed

shrinks : (s t : PairsState) → ((m j : ℕ) → image_at m t ≡ Some j → image_at m s ≡ Some j) → FeedsOne s → FeedsOne t
shrinks s t less feeds m n j at also = feeds m n j (less m j at) (less n j also)

same_feeds_one : (s t : PairsState) → SameImages s t → FeedsOne s → FeedsOne t
same_feeds_one s t same feeds = shrinks s t (λ m j e. sym (same.image m) ∙ e) feeds

same_lost : (s t : PairsState) → SameImages s t → LostFeedNone s → LostFeedNone t
same_lost s t same none i n lost at = none i n (lost_there i t s (sym same.images) lost) (sym (same.image n) ∙ at)

-- ---- an image more

pushed : (xs : List JoinedImage) (x : JoinedImage) (i : ℕ) (y : JoinedImage) → slice_get (xs ++ x ∷ []) i ≡ Some y → (slice_get xs i ≡ Some y) ⊎ (x ≡ y)
pushed [] x zero y e = inr cc
pushed [] x (suc i) y e = cc
pushed (z ∷ xs) x zero y e = inl e
pushed (z ∷ xs) x (suc i) y e = pushed xs x i y e

kept_push : (xs : List JoinedImage) (x : JoinedImage) (i : ℕ) (y : JoinedImage) → slice_get xs i ≡ Some y → slice_get (xs ++ x ∷ []) i ≡ Some y
kept_push [] x i y e = cc
kept_push (z ∷ xs) x zero y e = e
kept_push (z ∷ xs) x (suc i) y e = kept_push xs x i y e

-- what stands in a list in which one image is another
pub set_gives : (xs : List JoinedImage) (v : ℕ) (x : JoinedImage) (i : ℕ) (y : JoinedImage) → slice_get (set xs v x) i ≡ Some y → (slice_get xs i ≡ Some y) ⊎ (x ≡ y)
set_gives [] v x i y e = inl e
set_gives (z ∷ xs) zero x zero y e = inr cc
set_gives (z ∷ xs) zero x (suc i) y e = inl e
set_gives (z ∷ xs) (suc v) x zero y e = inl e
set_gives (z ∷ xs) (suc v) x (suc i) y e = set_gives xs v x i y e

pub put_gives : (o : Option ℕ) (xs : List JoinedImage) (x : JoinedImage) (i : ℕ) (y : JoinedImage) → slice_get (put_image o x xs) i ≡ Some y → (slice_get xs i ≡ Some y) ⊎ (x ≡ y)
put_gives None xs x i y e = pushed xs x i y e
put_gives (Some v) xs x i y e = set_gives xs v x i y e

joined_lost : (join : StreamPoint) (s : PairsState) → LostFeedNone s → LostFeedNone (joined join s)
joined_lost join s none i n lost at =
    ⊎_elim (λ e. none i n (record { image = lost.image; there = e; lost = lost.lost }) at)
    (λ e. let yes = lost.lost in let no : lost.image.is_lost ≡ false = ap (λ (x : JoinedImage). x.is_lost) (sym e) in absurd (cc))
    (put_gives (position is_vacant s.images) s.images (new_image join s) i lost.image lost.there)

-- ---- no place was given back

abbrev NoneLeft : PairsState → Type 0
NoneLeft s = (i : ℕ) (image : JoinedImage) → slice_get s.images i ≡ Some image → image.has_left ≡ false

not_less : (n : ℕ) → nat_lt n n ≡ false
not_less n = grind (arith, nat_tests)

first_past : (xs : List JoinedImage) → ((i : ℕ) (image : JoinedImage) → slice_get xs i ≡ Some image → image.has_left ≡ false) → position_or_len is_vacant xs ≡ length xs
first_past [] none = refl
first_past (x ∷ xs) none = let rest = first_past xs (λ i y e. none (suc i) y e) in rw (none 0 x refl) (omega (arith, rest))

none_vacant : (s : PairsState) → NoneLeft s → position is_vacant s.images ≡ None
none_vacant s none = rw (first_past s.images none, not_less (length s.images)) refl

-- ---- a session that was refused

pub set_or_same : (xs : List JoinedImage) (i : ℕ) (y : JoinedImage) (j : ℕ) (z : JoinedImage) → slice_get (set xs i y) j ≡ Some z → (j ≡ i) ⊎ (slice_get xs j ≡ Some z)
set_or_same [] i y j z e = inr e
set_or_same (x ∷ xs) zero y zero z e = inl refl
set_or_same (x ∷ xs) zero y (suc j) z e = inr e
set_or_same (x ∷ xs) (suc i) y zero z e = inr e
set_or_same (x ∷ xs) (suc i) y (suc j) z e = ⊎_elim (λ same. inl (ap suc same)) (λ r. inr r) (set_or_same xs i y j z e)

pub set_here : (xs : List JoinedImage) (i : ℕ) (x y : JoinedImage) → slice_get xs i ≡ Some x → slice_get (set xs i y) i ≡ Some y
set_here [] i x y e = cc
set_here (z ∷ xs) zero x y e = refl
set_here (z ∷ xs) (suc i) x y e = set_here xs i x y e

pub set_elsewhere : (xs : List JoinedImage) (i : ℕ) (y : JoinedImage) (j : ℕ) → j ≢ i → slice_get (set xs i y) j ≡ slice_get xs j
set_elsewhere [] i y j other = refl
set_elsewhere (z ∷ xs) zero y zero other = absurd (other refl)
set_elsewhere (z ∷ xs) zero y (suc j) other = refl
set_elsewhere (z ∷ xs) (suc i) y zero other = refl
set_elsewhere (z ∷ xs) (suc i) y (suc j) other = set_elsewhere xs i y j (λ same. other (ap suc same))

session_within : (n i : ℕ) (s : PairsState) → image_at n s ≡ Some i → Dec (length s.slots ≤ n) → n < length s.slots
session_within n i s e (no inside) = omega arith
session_within n i s e (yes past) = let none = ap image_of_slot (get_or_past s.slots n None past) in absurd (cc)

-- a session loses its image
module _ (n i : ℕ) (s : PairsState) (has : image_at n s ≡ Some i) where
  pub refused_none : image_at n (without_image n (Some i) s) ≡ None
  refused_none =
      ap image_of_slot (get_or-set_same s.slots n (fed_by None (slot_of n s)) None (session_within n i s has (dec_le (length s.slots) n)))
      ∙ unfed_image (slot_of n s)

  refused_less : (m j : ℕ) → image_at m (without_image n (Some i) s) ≡ Some j → image_at m s ≡ Some j
  refused_less m j e =
      ⊎_elim (λ c. let none = ap image_of_slot c.2 ∙ unfed_image (slot_of n s) in absurd (cc)) (λ c. sym (ap image_of_slot c) ∙ e) (changed n (fed_by None (slot_of n s)) s m)

  refused_keeps : (m j : ℕ) → m ≢ n → image_at m s ≡ Some j → image_at m (without_image n (Some i) s) ≡ Some j
  refused_keeps m j other e = ⊎_elim (λ c. absurd (other c.0)) (λ c. ap image_of_slot c ∙ e) (changed n (fed_by None (slot_of n s)) s m)

  lost_by : (o : Option JoinedImage) → slice_get s.images i ≡ o → (j : ℕ) (y : JoinedImage) → slice_get (lost o i s.images) j ≡ Some y → (j ≡ i) ⊎ (slice_get s.images j ≡ Some y)
  lost_by None there j y e = inr e
  lost_by (Some image) there j y e = set_or_same s.images i (record image { is_lost = true }) j y e

  refused_lost : LostFeedNone s → FeedsOne s → LostFeedNone (without_image n (Some i) s)
  refused_lost none feeds j m gone at =
      let before = refused_less m j at in
      ⊎_elim (λ same.
      let one : m ≡ n = feeds m n i (before ∙ ap (λ (k : ℕ). Some k) same) has in
      let empty = ap (λ (k : ℕ). image_at k (without_image n (Some i) s)) one ∙ refused_none in
      absurd (cc))
      (λ there. none j m (record { image = gone.image; there = there; lost = gone.lost }) before)
      (lost_by (slice_get s.images i) refl j gone.image gone.there)

  still_by : (o : Option JoinedImage) → slice_get s.images i ≡ o → (j : ℕ) → IsLost j s → Dec (j ≡ i) → (y : JoinedImage) × (slice_get (lost o i s.images) j ≡ Some y) × (y.is_lost ≡ true)
  still_by None there j gone _ = (gone.image, gone.there, gone.lost)
  still_by (Some image) there j gone (no other) = (gone.image, set_elsewhere s.images i (record image { is_lost = true }) j other ∙ gone.there, gone.lost)
  still_by (Some image) there j gone (yes same) =
      (record image { is_lost = true }, ap (slice_get (set s.images i (record image { is_lost = true }))) same ∙ set_here s.images i image (record image { is_lost = true }) there, refl)

  still_lost : (j : ℕ) → IsLost j s → IsLost j (without_image n (Some i) s)
  still_lost j gone = let found = still_by (slice_get s.images i) refl j gone (ℕ_discrete j i) in record { image = found.0; there = found.1; lost = found.2 }

-- ---- whatever comes

-- what holds of the pairs over all runs
pub record Inv (s : PairsState) : Type 0 where
  pub feeds : FeedsOne s
  pub none : LostFeedNone s

all_paired : (s : PairsState) → Inv s → Inv (pair_all s)
all_paired s inv = record { feeds = first_feeds_one (length s.images) s inv.feeds; none = first_lost (length s.images) s inv.none }

same_inv : (s t : PairsState) → SameImages s t → Inv s → Inv t
same_inv s t same inv = record { feeds = same_feeds_one s t same inv.feeds; none = same_lost s t same inv.none }

joins_by : (join : StreamPoint) (s : PairsState) → Inv s → (b : Bool) → Inv (if b then pair_all (joined join s) else s)
joins_by join s inv true = all_paired (joined join s) (record { feeds = inv.feeds; none = joined_lost join s inv.none })
joins_by join s inv false = inv

pub refused_by : (n : ℕ) (s : PairsState) → Inv s → (o : Option ℕ) → image_at n s ≡ o → Inv (without_image n o s)
refused_by n s inv None e = inv
refused_by n s inv (Some i) e = record {
  feeds = shrinks s (without_image n (Some i) s) (refused_less n i s e) inv.feeds;
  none = refused_lost n i s e inv.none inv.feeds;
}

pub kept_inv : (s : PairsState) (e : Coming) → Inv s → Inv (after_coming s e)
kept_inv s (opens n session recording point) inv =
    all_paired (with_new_session n (opened_slot session recording point) s) (same_inv s (with_new_session n (opened_slot session recording point) s) (noted_same n session recording point s) inv)
kept_inv s (joins join) inv = joins_by join s inv (may_join join.publication s)
kept_inv s (settles n position) inv = same_inv s (after_settled n position s) (settled_same n position s) inv
kept_inv s (stops recording) inv = same_inv s (after_stopped recording s) (ended_same (position (writes recording) s.slots) s) inv
kept_inv s (refuses n) inv = refused_by n s inv (image_at n s) refl

all_inv : (es : List Coming) (s : PairsState) → Inv s → Inv (after_comings s es)
all_inv [] s inv = inv
all_inv (e ∷ es) s inv = all_inv es (after_coming s e) (kept_inv s e inv)

nothing : (k n : ℕ) → get_or {A = Option SessionSlot} (replicate k None) n None ≡ None
nothing zero n = refl
nothing (suc k) zero = refl
nothing (suc k) (suc n) = nothing k n

pub begins : Inv no_pairs
begins = record {
  feeds = λ m n i at also. let none = ap image_of_slot (nothing 64 m) in absurd (cc);
  none = λ i n gone at. let none = ap image_of_slot (nothing 64 n) in cc;
}

pub feeds_one : (es : List Coming) → FeedsOne (after_comings no_pairs es)
feeds_one es = (all_inv es no_pairs begins).feeds

-- ---- what was lost stays lost, while no place is given back

all_paired_lost : (i : ℕ) (s : PairsState) → IsLost i s → IsLost i (pair_all s)
all_paired_lost i s gone = lost_there i s (pair_all s) (first_images (length s.images) s) gone

kept_put : (o : Option ℕ) (xs : List JoinedImage) (x : JoinedImage) (i : ℕ) (y : JoinedImage) → o ≡ None → slice_get xs i ≡ Some y → slice_get (put_image o x xs) i ≡ Some y
kept_put None xs x i y none e = kept_push xs x i y e
kept_put (Some v) xs x i y none e = cc

joins_lost : (i : ℕ) (join : StreamPoint) (s : PairsState) → NoneLeft s → IsLost i s → (b : Bool) → IsLost i (if b then pair_all (joined join s) else s)
joins_lost i join s stay gone true = all_paired_lost i (joined join s) (record {
  image = gone.image;
  there = kept_put (position is_vacant s.images) s.images (new_image join s) i gone.image (none_vacant s stay) gone.there;
  lost = gone.lost;
})
joins_lost i join s stay gone false = gone

refuses_lost : (i n : ℕ) (s : PairsState) → IsLost i s → (o : Option ℕ) → image_at n s ≡ o → IsLost i (without_image n o s)
refuses_lost i n s gone None e = gone
refuses_lost i n s gone (Some j) e = still_lost n j s e i gone

after_lost : (i : ℕ) (s : PairsState) (e : Coming) → NoneLeft s → IsLost i s → IsLost i (after_coming s e)
after_lost i s (opens n session recording point) stay gone =
    all_paired_lost i (with_new_session n (opened_slot session recording point) s) (lost_there i s (with_new_session n (opened_slot session recording point) s) (noted_same n session recording point s).images gone)
after_lost i s (joins join) stay gone = joins_lost i join s stay gone (may_join join.publication s)
after_lost i s (settles n position) stay gone = lost_there i s (after_settled n position s) (settled_same n position s).images gone
after_lost i s (stops recording) stay gone = lost_there i s (after_stopped recording s) (ended_same (position (writes recording) s.slots) s).images gone
after_lost i s (refuses n) stay gone = refuses_lost i n s gone (image_at n s) refl

stays_there : (s t : PairsState) → t.images ≡ s.images → NoneLeft s → NoneLeft t
stays_there s t same stay i image at = stay i image (ap (λ (xs : List JoinedImage). slice_get xs i) (sym same) ∙ at)

joined_stays : (join : StreamPoint) (s : PairsState) → NoneLeft s → NoneLeft (joined join s)
joined_stays join s stay i image at =
    ⊎_elim (λ e. stay i image e) (λ e. ap (λ (x : JoinedImage). x.has_left) (sym e)) (put_gives (position is_vacant s.images) s.images (new_image join s) i image at)

joins_stays : (join : StreamPoint) (s : PairsState) → NoneLeft s → (b : Bool) → NoneLeft (if b then pair_all (joined join s) else s)
joins_stays join s stay true = stays_there (joined join s) (pair_all (joined join s)) (first_images (length (joined join s).images) (joined join s)) (joined_stays join s stay)
joins_stays join s stay false = stay

lost_stays : (o : Option JoinedImage) (i : ℕ) (xs : List JoinedImage) → slice_get xs i ≡ o → ((j : ℕ) (y : JoinedImage) → slice_get xs j ≡ Some y → y.has_left ≡ false) → (j : ℕ) (y : JoinedImage) → slice_get (lost o i xs) j ≡ Some y → y.has_left ≡ false
lost_stays None i xs there stay j y at = stay j y at
lost_stays (Some image) i xs there stay j y at =
    ⊎_elim (λ e. stay j y e) (λ e. ap (λ (x : JoinedImage). x.has_left) (sym e) ∙ stay i image there) (set_gives xs i (record image { is_lost = true }) j y at)

refuses_stays : (n : ℕ) (s : PairsState) → NoneLeft s → (o : Option ℕ) → NoneLeft (without_image n o s)
refuses_stays n s stay None = stay
refuses_stays n s stay (Some i) = lost_stays (slice_get s.images i) i s.images refl stay

after_stays : (s : PairsState) (e : Coming) → NoneLeft s → NoneLeft (after_coming s e)
after_stays s (opens n session recording point) stay =
    let noted = with_new_session n (opened_slot session recording point) s in
    stays_there noted (pair_all noted) (first_images (length noted.images) noted) (stays_there s noted (noted_same n session recording point s).images stay)
after_stays s (joins join) stay = joins_stays join s stay (may_join join.publication s)
after_stays s (settles n position) stay = stays_there s (after_settled n position s) (settled_same n position s).images stay
after_stays s (stops recording) stay = stays_there s (after_stopped recording s) (ended_same (position (writes recording) s.slots) s).images stay
after_stays s (refuses n) stay = refuses_stays n s stay (image_at n s)

all_stay : (es : List Coming) (s : PairsState) → NoneLeft s → NoneLeft (after_comings s es)
all_stay [] s stay = stay
all_stay (e ∷ es) s stay = all_stay es (after_coming s e) (after_stays s e stay)

never_again : (more : List Coming) (i n : ℕ) (s : PairsState) → Inv s → NoneLeft s → IsLost i s → image_at n (after_comings s more) ≢ Some i
never_again [] i n s inv stay gone at = inv.none i n gone at
never_again (e ∷ more) i n s inv stay gone at = never_again more i n (after_coming s e) (kept_inv s e inv) (after_stays s e stay) (after_lost i s e stay gone) at

one_after_another : (es more : List Coming) (s : PairsState) → after_comings s (es ++ more) ≡ after_comings (after_comings s es) more
one_after_another [] more s = refl
one_after_another (e ∷ es) more s = one_after_another es more (after_coming s e)

pub lost_feeds_none : (es more : List Coming) (i n : ℕ) → IsLost i (after_comings no_pairs es) → image_at n (after_comings no_pairs (es ++ more)) ≢ Some i
lost_feeds_none es more i n gone at =
    never_again more i n (after_comings no_pairs es) (all_inv es no_pairs begins) (all_stay es no_pairs (λ j image e. absurd (cc))) gone (sym (ap (image_at n) (one_after_another es more no_pairs)) ∙ at)

-- ---- a pair ends by a refusal alone

joins_keep : (join : StreamPoint) (s : PairsState) (n i : ℕ) → image_at n s ≡ Some i → (b : Bool) → image_at n (if b then pair_all (joined join s) else s) ≡ Some i
joins_keep join s n i e true = first_keeps (length (joined join s).images) (joined join s) n i e
joins_keep join s n i e false = e

refuses_keep : (m : ℕ) (s : PairsState) (n i : ℕ) → image_at n s ≡ Some i → n ≢ m → (o : Option ℕ) → image_at m s ≡ o → image_at n (without_image m o s) ≡ Some i
refuses_keep m s n i e other None at = e
refuses_keep m s n i e other (Some j) at = refused_keeps m j s at n i other e

refuses_or : (m : ℕ) (s : PairsState) (n i : ℕ) → image_at n s ≡ Some i → Dec (n ≡ m) → (image_at n (after_refused m s) ≡ Some i) ⊎ (refuses m ≡ refuses n)
refuses_or m s n i e (yes same) = inr (ap refuses (sym same))
refuses_or m s n i e (no other) = inl (refuses_keep m s n i e other (image_at m s) refl)

pub stays : (s : PairsState) (e : Coming) (n : ℕ) → PairStays n e s
stays s (opens m session recording point) n i e =
    inl (first_keeps (length (with_new_session m (opened_slot session recording point) s).images) (with_new_session m (opened_slot session recording point) s) n i ((noted_same m session recording point s).image n ∙ e))
stays s (joins join) n i e = inl (joins_keep join s n i e (may_join join.publication s))
stays s (settles m position) n i e = inl ((settled_same m position s).image n ∙ e)
stays s (stops recording) n i e = inl ((ended_same (position (writes recording) s.slots) s).image n ∙ e)
stays s (refuses m) n i e = refuses_or m s n i e (ℕ_discrete n m)

-- ---- none waits

pub opened_waits : (n : ℕ) (session recording : ℤ) (point : StreamPoint) (s : PairsState) → NoneWaits (after_opened n session recording point s)
opened_waits n session recording point s = none_waits (with_new_session n (opened_slot session recording point) s)

pub joined_waits : (join : StreamPoint) (s : PairsState) → may_join join.publication s ≡ true → NoneWaits (after_joined join s)
joined_waits join s may = subst (λ b. NoneWaits (if b then pair_all (joined join s) else s)) (sym may) (none_waits (joined join s))
