-- Pages that are kept stay pages of their recordings.
use Rattle.std.proofs.Common.{◌≡◌, ◌∙◌, inl, inr, sym, ap, subst, refl, ℕ, ℤ, pos, ◌+◌, ◌-◌, ◌*◌, ◌/◌, ◌<◌, ◌≤◌, ◌<ℤ◌, ◌≤ℤ◌, IsTrue, List, [], ◌∷◌, Option, Some, length, min, unsigned_abs, arith}
use Rattle.std.proofs.lemmas.Int.{ints}
use Rattle.std.specs.Prelude.{◌^◌, get_or}
use Rattle.engine_core.proofs.Words.{DiskImage, Frame, Layout, Life, RegisterState, Registration, Segment, aligned_length, base_of, bytes_of, file_of, found_number, layout_of, offset_of, reads, registration_in}
use Rattle.frame_core.specs.FrameEncoding.{encoded}
use Rattle.replay_core.specs.Pages.{AgreeOver, HasByte, IsRead, KeepsRead, Pages, key_at}
use Rattle.replay_core.specs.Poll.{AgreeOn}
use Rattle.archive_model.specs.Register as register
use Rattle.archive_model.specs.Keyed.{Rise}
use Rattle.engine_core.specs.KeptPages.{IsPageOf, KeepsPage, KeepsPages}
use Rattle.engine_core.proofs.calls.FollowLemmas.{Follows, GoesOn, found_below}
use Rattle.engine_core.proofs.calls.KnownLemmas.{one_known}

-- ---- bytes

-- a byte of a file that reads as before
pub byte_read : (old new : DiskImage) (l : Layout) (p byte : ℕ) → new (file_of l p) ≡ old (file_of l p) → HasByte old l p byte → HasByte new l p byte
byte_read old new l p byte same has = record {
  inside = subst (λ (o : Option (List ℕ)). offset_of l p < length (bytes_of o)) (sym same) has.inside;
  is = subst (λ (o : Option (List ℕ)). get_or (bytes_of o) (offset_of l p) 0 ≡ byte) (sym same) has.is;
}

-- a byte that lies at the same place
byte_there : (image : DiskImage) (l m : Layout) (p byte : ℕ) → l.recording ≡ m.recording → base_of l p ≡ base_of m p → HasByte image l p byte → HasByte image m p byte
byte_there image l m p byte recording base has = record {
  inside = subst (λ (b : ℕ). p - b < length (bytes_of (image (Segment m.recording (pos b))))) base
      (subst (λ (id : ℤ). p - base_of l p < length (bytes_of (image (Segment id (pos (base_of l p)))))) recording has.inside);
  is = subst (λ (b : ℕ). get_or (bytes_of (image (Segment m.recording (pos b)))) (p - b) 0 ≡ byte) base
      (subst (λ (id : ℤ). get_or (bytes_of (image (Segment id (pos (base_of l p))))) (p - base_of l p) 0 ≡ byte) recording has.is);
}

-- each recorded byte that a disk had is there still
abbrev pub KeepsBytes : DiskImage → DiskImage → RegisterState → Type 0
KeepsBytes old new g =
    (id : ℤ) (r : Registration) (p byte : ℕ) → registration_in g id ≡ Some r → unsigned_abs r.descriptor.start_position ≤ p → pos p <ℤ r.recorded → HasByte old (layout_of r.descriptor) p byte → HasByte new (layout_of r.descriptor) p byte

-- where each segment file reads as before
pub same_bytes : (old new : DiskImage) (g : RegisterState) → ((id base : ℤ) → new (Segment id base) ≡ old (Segment id base)) → KeepsBytes old new g
same_bytes old new g same id r p byte found from below has = byte_read old new (layout_of r.descriptor) p byte (same _ _) has

-- ---- pages

-- the position of a page lies in it
in_page : (p number : ℕ) → p / 4096 ≡ number → p < 4096 * (number + 1)
in_page p number here = omega (arith, here)

-- they stay where recorded bytes do, and recordings go on
pub pages_stay : (old new : Life) (g h : RegisterState) (generation : ℕ) (pages : Pages) → (IsTrue new.obeys → IsTrue old.obeys) → KeepsBytes (reads old.now) (reads new.now) g → Follows g h → KeepsPages old g generation pages → KeepsPages new h generation pages
pages_stay old new g h generation pages obeyed bytes follows keeps obeys key page has =
    let was : KeepsPage (reads old.now) g generation key page = keeps (obeyed obeys) key page has in
    record {
      given = omega (arith, ints, was.given, follows.next);
      past = was.past;
      keeps = was.keeps;
      present = λ same s found. stays was same s (follows.each key.recording s was.given found);
    }
  where
    stays : KeepsPage (reads old.now) g generation key page → key.generation ≡ generation → (s : Registration) → (r : Registration) × (registration_in g key.recording ≡ Some r) × GoesOn r s → IsPageOf (reads new.now) key.number page s
    stays was same s before =
        let r : Registration = before.0 in
        let goes : GoesOn r s = before.2 in
        let page_was : IsPageOf (reads old.now) key.number page r = was.present same r before.1 in
        record {
          below = omega (arith, ints, page_was.below, goes.recorded);
          agrees = λ p from here short.
              let inside = in_page p key.number here in
              let start : unsigned_abs r.descriptor.start_position ≤ p = omega (arith, goes.start, from) in
              byte_there (reads new.now) (layout_of r.descriptor) (layout_of s.descriptor) p _ (sym goes.id) (sym (goes.bases p from))
              (bytes key.recording r p _ before.1 start (omega (arith, ints, page_was.below, inside)) (page_was.agrees p start here short));
        }

-- in the next generation none is asked
pub pages_past : (old new : Life) (g h : RegisterState) (generation : ℕ) (pages : Pages) → (IsTrue new.obeys → IsTrue old.obeys) → g.next ≤ℤ h.next → KeepsPages old g generation pages → KeepsPages new h (min (generation + 1) (2 ^ 64 - 1)) pages
pages_past old new g h generation pages obeyed next keeps obeys key page has =
    let was : KeepsPage (reads old.now) g generation key page = keeps (obeyed obeys) key page has in
    record {
      given = omega (arith, ints, was.given, next);
      past = omega (arith, was.past, was.keeps);
      keeps = was.keeps;
      present = λ same s found. absurd (omega (arith, was.past, was.keeps, same));
    }

-- those that a poll has read join them
pub pages_read : (old new : Life) (g : RegisterState) (generation : ℕ) (before after : Pages) (id : ℤ) (r : Registration) → Rise register.id_of (pos 0) g.recordings g.next → registration_in g id ≡ Some r
    → KeepsRead (IsTrue new.obeys) (reads old.now) (layout_of r.descriptor) generation r.recorded before after → IsTrue new.obeys → KeepsPages old g generation before → KeepsPages old g generation after
pages_read old new g generation before after id r rising found read new_obeys keeps obeys key page has = elim (read key page has) [
  | inl was ↦ keeps obeys key page was
  | inr is ↦ joins is
]
  where
    joins : IsRead (IsTrue new.obeys) (reads old.now) (layout_of r.descriptor) generation r.recorded key page.items → KeepsPage (reads old.now) g generation key page
    joins is =
        let named : register.id_of r ≡ id = found_number register.id_of id g.recordings r found in
        let mine : key.recording ≡ id = is.recording ∙ named in
        let low = found_below (pos 0) g.next id g.recordings r rising found in
        record {
          given = omega (arith, ints, mine, low);
          past = omega (arith, is.generation_is);
          keeps = omega (arith, is.generation_is, is.keeps);
          present = λ same s there.
              let one : r ≡ s = one_known r s (sym found ∙ ap (registration_in g) (sym mine) ∙ there) in
              subst (IsPageOf (reads old.now) key.number page) one (record { below = is.below; agrees = λ p from here. is.agrees new_obeys p from here });
        }

-- ---- what a poll is asked

module _ (life : Life) (g : RegisterState) (generation : ℕ) (pages : Pages) (id : ℤ) (r : Registration) (found : registration_in g id ≡ Some r) (keeps : KeepsPages life g generation pages) (obeys : IsTrue life.obeys) where
  -- kept pages agree with the disk on so many bytes
  agree_over : (from size : ℕ) → unsigned_abs r.descriptor.start_position ≤ from → AgreeOver (reads life.now) (layout_of r.descriptor) generation pages from size
  agree_over from size start k less page has =
      let was : KeepsPage (reads life.now) g generation (key_at (layout_of r.descriptor) generation (from + k)) page = keeps obeys _ page has in
      let named : register.id_of r ≡ id = found_number register.id_of id g.recordings r found in
      (was.present refl r (ap (registration_in g) named ∙ found)).agrees (from + k) (omega (arith, start)) refl

  -- and on whatever frames
  pub agree_on : (frames : List Frame) (from : ℕ) → unsigned_abs r.descriptor.start_position ≤ from → AgreeOn (reads life.now) (layout_of r.descriptor) generation pages from frames
  agree_on [] from start = tt
  agree_on (f ∷ fs) from start = (agree_over from (length (encoded f)) start, agree_on fs (from + aligned_length f) (omega (arith, start)))
