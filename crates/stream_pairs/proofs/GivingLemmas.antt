-- Places and seats that are given back.
use Rattle.std.proofs.Common.{◌≡◌, ◌≢◌, ℕ, zero, suc, ◌+◌, ◌<◌, ◌≤◌, ◌⊎◌, inl, inr, ⊎_elim, Bool, true, false, List, [], ◌∷◌, ◌++◌, length, get_or, set, sym, refl, ap, ◌∙◌, subst, arith}
use Rattle.std.specs.Prelude.{ℤ, Option, Some, None, is_some, slice_get, if◌then◌else◌}
use Rattle.std.specs.List.{position}
use Rattle.std.proofs.lemmas.List.Quantifiers.{position-Some}
use native.Mathlib.Decide.{ℕ_discrete}
use Rattle.stream_pairs.specs.declared.points.StreamPoint.{StreamPoint}
use Rattle.stream_pairs.specs.declared.pairs.SessionSlot.{SessionSlot}
use Rattle.stream_pairs.specs.declared.pairs.JoinedImage.{JoinedImage}
use Rattle.stream_pairs.specs.Pairs.{PairsState, after_joined, after_left, after_refused, after_released, after_settled, ended_at, fed_by, feeds, image_at, image_of_slot, is_vacant, joined, lost, may_join, new_image, no_pairs, opened_slot, pair_all, pair_first, released_at, slot_of, unfed_at, vacated, with_new_session, with_slot, without_image, writes}
use Rattle.stream_pairs.specs.Laws.{Coming, opens, joins, settles, stops, refuses, FeedsOne, Happening, comes, releases, leaves, IsSameImage, LeavesTheRest, ReleasesNoOther, after_coming, after_comings, after_happening, after_happenings}
use Rattle.stream_pairs.proofs.SlotLemmas.{changed, feeds_at, index_is, none_passes, unfed_image}
use Rattle.stream_pairs.proofs.PairLemmas.{first_images, pair_cases}
use Rattle.stream_pairs.proofs.RunLemmas.{Inv, begins, ended_same, kept_inv, noted_same, put_gives, refused_by, refused_none, set_elsewhere, set_here, set_or_same}

-- ---- a session without its image

unfed_at_feeds : (n : ℕ) (slot : Option SessionSlot) (s : PairsState) → image_of_slot slot ≡ None → (m j : ℕ) → image_at m (with_slot n slot s) ≡ Some j → image_at m s ≡ Some j
unfed_at_feeds n slot s empty m j e = ⊎_elim (λ c. let none = ap image_of_slot c.2 ∙ empty in absurd (cc)) (λ c. sym (ap image_of_slot c) ∙ e) (changed n slot s m)

unfed_less : (o : Option ℕ) (s : PairsState) (m j : ℕ) → image_at m (unfed_at o s) ≡ Some j → image_at m s ≡ Some j
unfed_less None s m j e = e
unfed_less (Some n) s m j e = unfed_at_feeds n (fed_by None (slot_of n s)) s (unfed_image (slot_of n s)) m j e

-- the first session that an image feeds
fed_first : (i n : ℕ) (s : PairsState) → position (feeds i) s.slots ≡ Some n → image_at n s ≡ Some i
fed_first i n s found = index_is i (image_at n s) (position-Some (feeds i) s.slots n None found).1

-- once that one is without it, the image feeds none
unfed_here : (i : ℕ) (s : PairsState) (o : Option ℕ) → position (feeds i) s.slots ≡ o → FeedsOne s → (m : ℕ) → image_at m (unfed_at o s) ≢ Some i
unfed_here i s None found one m at =
    let no = none_passes (feeds i) s.slots m refl found in
    let yes = feeds_at i m s at in
    absurd (cc)
unfed_here i s (Some n) found one m at =
    let own = fed_first i n s found in
    let same : m ≡ n = one m n i (unfed_less (Some n) s m i at) own in
    let here = subst (λ (k : ℕ). image_at k (unfed_at (Some n) s) ≡ Some i) same at in
    let empty : image_at n (unfed_at (Some n) s) ≡ None = refused_none n i s own in
    absurd (cc)

-- ---- an image that is changed

-- it has the number and the join position that one had
record IsKept (xs : List JoinedImage) (j : ℕ) (y : JoinedImage) : Type 0 where
  image : JoinedImage
  there : slice_get xs j ≡ Some image
  number : y.number ≡ image.number
  join : y.join ≡ image.join

same_kept : (xs : List JoinedImage) (j : ℕ) (y : JoinedImage) → slice_get xs j ≡ Some y → IsKept xs j y
same_kept xs j y at = record { image = y; there = at; number = refl; join = refl }

changed_kept : (xs : List JoinedImage) (i : ℕ) (image changed : JoinedImage) → slice_get xs i ≡ Some image → changed.number ≡ image.number → changed.join ≡ image.join
    → (j : ℕ) (y : JoinedImage) → slice_get (set xs i changed) j ≡ Some y → IsKept xs j y
changed_kept xs i image changed there number join j y at =
    ⊎_elim (λ same.
    let here : slice_get (set xs i changed) i ≡ Some changed = set_here xs i image changed there in
    let also : slice_get (set xs i changed) i ≡ Some y = subst (λ (k : ℕ). slice_get (set xs i changed) k ≡ Some y) same at in
    let is : changed ≡ y = cc in
    record {
      image = image;
      there = subst (λ (k : ℕ). slice_get xs k ≡ Some image) (sym same) there;
      number = ap (λ (x : JoinedImage). x.number) (sym is) ∙ number;
      join = ap (λ (x : JoinedImage). x.join) (sym is) ∙ join;
    })
    (λ e. same_kept xs j y e) (set_or_same xs i changed j y at)

lost_kept : (o : Option JoinedImage) (i : ℕ) (xs : List JoinedImage) → slice_get xs i ≡ o → (j : ℕ) (y : JoinedImage) → slice_get (lost o i xs) j ≡ Some y → IsKept xs j y
lost_kept None i xs there j y at = same_kept xs j y at
lost_kept (Some image) i xs there j y at = changed_kept xs i image (record image { is_lost = true }) there refl refl j y at

vacated_kept : (o : Option JoinedImage) (i : ℕ) (xs : List JoinedImage) → slice_get xs i ≡ o → (j : ℕ) (y : JoinedImage) → slice_get (vacated o i xs) j ≡ Some y → IsKept xs j y
vacated_kept None i xs there j y at = same_kept xs j y at
vacated_kept (Some image) i xs there j y at = changed_kept xs i image (record image { is_lost = true; has_left = true }) there refl refl j y at

-- ---- an image feeds one session at most

vacated_by : (o : Option JoinedImage) (i : ℕ) (xs : List JoinedImage) (j : ℕ) (y : JoinedImage) → slice_get (vacated o i xs) j ≡ Some y → (j ≡ i) ⊎ (slice_get xs j ≡ Some y)
vacated_by None i xs j y e = inr e
vacated_by (Some image) i xs j y e = set_or_same xs i (record image { is_lost = true; has_left = true }) j y e

left_inv : (i : ℕ) (s : PairsState) → Inv s → Inv (after_left i s)
left_inv i s inv = record {
  feeds = λ m n j at also. inv.feeds m n j (unfed_less (position (feeds i) s.slots) s m j at) (unfed_less (position (feeds i) s.slots) s n j also);
  none = λ j n gone at.
      ⊎_elim (λ same. unfed_here i s (position (feeds i) s.slots) refl inv.feeds n (subst (λ (k : ℕ). image_at n (after_left i s) ≡ Some k) same at))
      (λ e. inv.none j n (record { image = gone.image; there = e; lost = gone.lost }) (unfed_less (position (feeds i) s.slots) s n j at))
      (vacated_by (slice_get s.images i) i s.images j gone.image gone.there);
}

released_inv : (o : Option ℕ) (s : PairsState) → Inv s → Inv (released_at o s)
released_inv None s inv = inv
released_inv (Some n) s inv =
    let before = refused_by n s inv (image_at n s) refl in
    record {
      feeds = λ m k j at also. before.feeds m k j (unfed_at_feeds n None (after_refused n s) refl m j at) (unfed_at_feeds n None (after_refused n s) refl k j also);
      none = λ j m gone at. before.none j m (record { image = gone.image; there = gone.there; lost = gone.lost }) (unfed_at_feeds n None (after_refused n s) refl m j at);
    }

kept_happening : (s : PairsState) (h : Happening) → Inv s → Inv (after_happening s h)
kept_happening s (comes e) inv = kept_inv s e inv
kept_happening s (releases recording) inv = released_inv (position (writes recording) s.slots) s inv
kept_happening s (leaves i) inv = left_inv i s inv

all_kept : (hs : List Happening) (s : PairsState) → Inv s → Inv (after_happenings s hs)
all_kept [] s inv = inv
all_kept (h ∷ hs) s inv = all_kept hs (after_happening s h) (kept_happening s h inv)

pub feeds_one_always : (hs : List Happening) → FeedsOne (after_happenings no_pairs hs)
feeds_one_always hs = (all_kept hs no_pairs begins).feeds

-- ---- the rest stays

left_images : (o : Option JoinedImage) (i : ℕ) (xs : List JoinedImage) (j : ℕ) → j ≢ i → slice_get (vacated o i xs) j ≡ slice_get xs j
left_images None i xs j other = refl
left_images (Some image) i xs j other = set_elsewhere xs i (record image { is_lost = true; has_left = true }) j other

left_slots : (i : ℕ) (s : PairsState) (o : Option ℕ) → position (feeds i) s.slots ≡ o → (n : ℕ) → image_at n s ≢ Some i → slot_of n (unfed_at o s) ≡ slot_of n s
left_slots i s None found n other = refl
left_slots i s (Some k) found n other =
    ⊎_elim (λ c. absurd (other (subst (λ (m : ℕ). image_at m s ≡ Some i) (sym c.0) (fed_first i k s found)))) (λ c. c) (changed k (fed_by None (slot_of k s)) s n)

pub leaves_the_rest : (i : ℕ) (s : PairsState) → LeavesTheRest i s
leaves_the_rest i s = record {
  images = λ j other. left_images (slice_get s.images i) i s.images j other;
  slots = λ n other. left_slots i s (position (feeds i) s.slots) refl n other;
}

lost_images : (o : Option JoinedImage) (i : ℕ) (xs : List JoinedImage) (j : ℕ) → j ≢ i → slice_get (lost o i xs) j ≡ slice_get xs j
lost_images None i xs j other = refl
lost_images (Some image) i xs j other = set_elsewhere xs i (record image { is_lost = true }) j other

refused_slot : (n : ℕ) (s : PairsState) (o : Option ℕ) (m : ℕ) → m ≢ n → slot_of m (without_image n o s) ≡ slot_of m s
refused_slot n s None m other = refl
refused_slot n s (Some i) m other = ⊎_elim (λ c. absurd (other c.0)) (λ c. c) (changed n (fed_by None (slot_of n s)) s m)

refused_images : (n : ℕ) (s : PairsState) (o : Option ℕ) → image_at n s ≡ o → (j : ℕ) → image_at n s ≢ Some j → slice_get (without_image n o s).images j ≡ slice_get s.images j
refused_images n s None at j other = refl
refused_images n s (Some i) at j other = lost_images (slice_get s.images i) i s.images j (λ same. other (at ∙ ap (λ (k : ℕ). Some k) (sym same)))

released_slots : (recording : ℤ) (s : PairsState) (o : Option ℕ) → position (writes recording) s.slots ≡ o → (m : ℕ) → writes recording (slot_of m s) ≡ false → slot_of m (released_at o s) ≡ slot_of m s
released_slots recording s None found m none = refl
released_slots recording s (Some n) found m none =
    let has = (position-Some (writes recording) s.slots n None found).1 in
    let other : m ≢ n = λ same. let also = subst (λ (k : ℕ). writes recording (slot_of k s) ≡ true) (sym same) has in cc in
    ⊎_elim (λ c. absurd (other c.0)) (λ c. c) (changed n None (after_refused n s) m) ∙ refused_slot n s (image_at n s) m other

released_images : (recording : ℤ) (s : PairsState) (o : Option ℕ) → position (writes recording) s.slots ≡ o → (j : ℕ) → ((n : ℕ) → writes recording (slot_of n s) ≡ true → image_at n s ≢ Some j)
    → slice_get (released_at o s).images j ≡ slice_get s.images j
released_images recording s None found j other = refl
released_images recording s (Some n) found j other = refused_images n s (image_at n s) refl j (other n (position-Some (writes recording) s.slots n None found).1)

pub releases_no_other : (recording : ℤ) (s : PairsState) → ReleasesNoOther recording s
releases_no_other recording s = record {
  slots = λ n none. released_slots recording s (position (writes recording) s.slots) refl n none;
  images = λ j other. released_images recording s (position (writes recording) s.slots) refl j other;
}

-- ---- numbers

-- each image that is there then was there before, or is the one that came, with the number of those before it
record Step (join : StreamPoint) (s t : PairsState) : Type 0 where
  came : s.came ≤ t.came
  from : (j : ℕ) (y : JoinedImage) → slice_get t.images j ≡ Some y → IsKept s.images j y ⊎ ((y.number ≡ s.came) × (y.join ≡ join) × (s.came < t.came))

same_step : (join : StreamPoint) (s t : PairsState) → t.came ≡ s.came → ((j : ℕ) (y : JoinedImage) → slice_get t.images j ≡ Some y → IsKept s.images j y) → Step join s t
same_step join s t same kept = record { came = omega arith; from = λ j y at. inl (kept j y at) }

first_came : (k : ℕ) (s : PairsState) → (pair_first k s).came ≡ s.came
first_came zero s = refl
first_came (suc k) s =
    ⊎_elim (λ u. ap (λ (t : PairsState). t.came) u.same) (λ p. ap (λ (t : PairsState). t.came) p.is) (pair_cases k (pair_first k s)) ∙ first_came k s

images_kept : (s t : PairsState) → t.images ≡ s.images → (j : ℕ) (y : JoinedImage) → slice_get t.images j ≡ Some y → IsKept s.images j y
images_kept s t same j y at = same_kept s.images j y (ap (λ (xs : List JoinedImage). slice_get xs j) (sym same) ∙ at)

noted_came : (n : ℕ) (slot : SessionSlot) (s : PairsState) (b : Bool) → (if b then s else with_slot n (Some slot) s).came ≡ s.came
noted_came n slot s true = refl
noted_came n slot s false = refl

ended_came : (o : Option ℕ) (s : PairsState) → (ended_at o s).came ≡ s.came
ended_came None s = refl
ended_came (Some n) s = refl

refused_step : (join : StreamPoint) (n : ℕ) (s : PairsState) (o : Option ℕ) → Step join s (without_image n o s)
refused_step join n s None = same_step join s s refl (λ j y at. same_kept s.images j y at)
refused_step join n s (Some i) = same_step join s (without_image n (Some i) s) refl (λ j y at. lost_kept (slice_get s.images i) i s.images refl j y at)

released_step : (join : StreamPoint) (s : PairsState) (o : Option ℕ) → Step join s (released_at o s)
released_step join s None = same_step join s s refl (λ j y at. same_kept s.images j y at)
released_step join s (Some n) = let step = refused_step join n s (image_at n s) in record { came = step.came; from = λ j y at. step.from j y at }

unfed_came : (o : Option ℕ) (s : PairsState) → (unfed_at o s).came ≡ s.came
unfed_came None s = refl
unfed_came (Some n) s = refl

joins_step : (join : StreamPoint) (s : PairsState) (b : Bool) → Step join s (if b then pair_all (joined join s) else s)
joins_step join s false = same_step join s s refl (λ j y at. same_kept s.images j y at)
joins_step join s true =
    let later : (pair_all (joined join s)).came ≡ s.came + 1 = first_came (length (joined join s).images) (joined join s) in
    record {
      came = omega arith;
      from = λ j y at.
          let there : slice_get (joined join s).images j ≡ Some y = ap (λ (xs : List JoinedImage). slice_get xs j) (sym (first_images (length (joined join s).images) (joined join s))) ∙ at in
          ⊎_elim (λ e. inl (same_kept s.images j y e))
          (λ e. inr (ap (λ (x : JoinedImage). x.number) (sym e), ap (λ (x : JoinedImage). x.join) (sym e), omega arith))
          (put_gives (position is_vacant s.images) s.images (new_image join s) j y there);
    }

-- the point at which an image joins, if one does
abbrev coming_join : StreamPoint → Coming → StreamPoint
coming_join point (joins join) = join
coming_join point e = point

coming_step : (point : StreamPoint) (s : PairsState) (e : Coming) → Step (coming_join point e) s (after_coming s e)
coming_step p s (opens n session recording point) =
    let noted = with_new_session n (opened_slot session recording point) s in
    same_step p s (pair_all noted) (first_came (length noted.images) noted ∙ noted_came n (opened_slot session recording point) s (is_some (slot_of n s)))
    (images_kept s (pair_all noted) (first_images (length noted.images) noted ∙ (noted_same n session recording point s).images))
coming_step p s (joins join) = joins_step join s (may_join join.publication s)
coming_step p s (settles n position) = same_step p s (after_settled n position s) refl (images_kept s (after_settled n position s) refl)
coming_step p s (stops recording) =
    let o = position (writes recording) s.slots in
    same_step p s (ended_at o s) (ended_came o s) (images_kept s (ended_at o s) (ended_same o s).images)
coming_step p s (refuses n) = refused_step p n s (image_at n s)

abbrev happening_join : StreamPoint → Happening → StreamPoint
happening_join point (comes e) = coming_join point e
happening_join point h = point

step_of : (point : StreamPoint) (s : PairsState) (h : Happening) → Step (happening_join point h) s (after_happening s h)
step_of p s (comes e) = coming_step p s e
step_of p s (releases recording) = released_step p s (position (writes recording) s.slots)
step_of p s (leaves i) =
    same_step p s (after_left i s) (unfed_came (position (feeds i) s.slots) s) (λ j y at. vacated_kept (slice_get s.images i) i s.images refl j y at)

-- numbers are those of images that came, and each is of one image
record AreNamed (s : PairsState) : Type 0 where
  below : (i : ℕ) (x : JoinedImage) → slice_get s.images i ≡ Some x → x.number < s.came
  one : (i j : ℕ) (x y : JoinedImage) → slice_get s.images i ≡ Some x → slice_get s.images j ≡ Some y → y.number ≡ x.number → y.join ≡ x.join

step_named : (join : StreamPoint) (s t : PairsState) → Step join s t → AreNamed s → AreNamed t
step_named join s t step named = record {
  below = λ i x at. ⊎_elim (λ k. omega (arith, named.below i k.image k.there, k.number, step.came)) (λ new. omega (arith, new.0, new.2)) (step.from i x at);
  one = λ i j x y at also same.
      ⊎_elim (λ k. ⊎_elim (λ l. l.join ∙ named.one i j k.image l.image k.there l.there (sym l.number ∙ same ∙ k.number) ∙ sym k.join)
      (λ new. absurd (omega (arith, named.below i k.image k.there, k.number, new.0, same))) (step.from j y also))
      (λ new. ⊎_elim (λ l. absurd (omega (arith, named.below j l.image l.there, l.number, new.0, same))) (λ more. more.1 ∙ sym new.1) (step.from j y also)) (step.from i x at);
}

all_named : (hs : List Happening) (point : StreamPoint) (s : PairsState) → AreNamed s → AreNamed (after_happenings s hs)
all_named [] point s named = named
all_named (h ∷ hs) point s named = all_named hs point (after_happening s h) (step_named (happening_join point h) s (after_happening s h) (step_of point s h) named)

-- whatever has this number joined there
record IsOnly (number : ℕ) (join : StreamPoint) (s : PairsState) : Type 0 where
  came : number < s.came
  only : (j : ℕ) (y : JoinedImage) → slice_get s.images j ≡ Some y → y.number ≡ number → y.join ≡ join

step_only : (number : ℕ) (join point : StreamPoint) (s t : PairsState) → Step point s t → IsOnly number join s → IsOnly number join t
step_only number join point s t step is = record {
  came = omega (arith, is.came, step.came);
  only = λ j y at same. ⊎_elim (λ k. k.join ∙ is.only j k.image k.there (sym k.number ∙ same)) (λ new. absurd (omega (arith, new.0, is.came, same))) (step.from j y at);
}

all_only : (hs : List Happening) (number : ℕ) (join : StreamPoint) (s : PairsState) → IsOnly number join s → IsOnly number join (after_happenings s hs)
all_only [] number join s is = is
all_only (h ∷ hs) number join s is = all_only hs number join (after_happening s h) (step_only number join (happening_join join h) s (after_happening s h) (step_of join s h) is)

one_by_one : (hs more : List Happening) (s : PairsState) → after_happenings s (hs ++ more) ≡ after_happenings (after_happenings s hs) more
one_by_one [] more s = refl
one_by_one (h ∷ hs) more s = one_by_one hs more (after_happening s h)

pub never_used_again : (hs more : List Happening) (i j : ℕ) (image later : JoinedImage) → slice_get (after_happenings no_pairs hs).images i ≡ Some image
    → slice_get (after_happenings no_pairs (hs ++ more)).images j ≡ Some later → IsSameImage image later
never_used_again hs more i j image later at also same =
    let s = after_happenings no_pairs hs in
    let named = all_named hs image.join no_pairs (record { below = λ k x e. absurd (cc); one = λ k l x y e. absurd (cc) }) in
    let only : IsOnly image.number image.join s = record { came = named.below i image at; only = λ k y e. named.one i k image y at e } in
    (all_only more image.number image.join s only).only j later (ap (λ (t : PairsState). slice_get t.images j) (sym (one_by_one hs more no_pairs)) ∙ also) same
