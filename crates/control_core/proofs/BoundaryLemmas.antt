-- Boundaries of a recording stay boundaries, and a poll ends at one.
use Rattle.std.proofs.Common.{◌≡◌, ◌≢◌, ◌+◌, ◌+ℤ◌, ◌≤ℤ◌, ◌<ℤ◌, ◌⊎◌, inl, inr, ◌&&◌, ◌||◌, ℕ, ℤ, pos, negsuc, Bool, true, false, List, [], ◌∷◌, ◌++◌, filter, refl, sym, ap, subst, ◌∙◌, true≢false, int_le, int_lt, nat_lt, unsigned_abs, ◌<◌, arith}
use Rattle.std.specs.Prelude.{◌==◌}
use Rattle.std.specs.Ordering.{int_eq}
use Rattle.std.specs.List.{list_any}
use Rattle.std.proofs.lemmas.Int.{ints}
use Rattle.std.proofs.lemmas.Bool.Decides.{nat_tests, Decides-int_eq}
use Rattle.frame_core.specs.declared.frame.Frame.{Frame}
use Rattle.frame_core.specs.declared.block.Block.{Block}
use Rattle.frame_core.specs.declared.block.Publication.{Publication}
use Rattle.frame_core.specs.declared.geometry.Geometry.{Geometry}
use Rattle.frame_core.specs.Block.{AreBlockOf, covered}
use Rattle.frame_core.specs.FrameEncoding.{aligned_length}
use Rattle.archive_model.specs.declared.registration.Registration.{Registration}
use Rattle.archive_model.specs.declared.reply.PolledFrame.{PolledFrame}
use Rattle.archive_model.specs.Keyed.{Each}
use Rattle.archive_model.specs.Register.{base_of, is_later_base}
use Rattle.archive_model.specs.State.{Recording, recorded_position, registration_of}
use Rattle.archive_model.specs.Commands.{appended, frames_of, purged}
use Rattle.archive_model.specs.Acceptance.{AreBlocksFrom, Continue}
use Rattle.archive_model.specs.Replay.{begins_frame, frames_in, is_between, is_boundary, placed, placed_frames, polled}
use Rattle.archive_model.specs.WellFormed.{IsKept}
use Rattle.archive_model.proofs.HistoriesLemmas.{covered-append}
use Rattle.archive_model.proofs.CutLemmas.{begun_all, unreached}
use Rattle.archive_model.proofs.ReplayLemmas.{placed-append, placed_appended}
use Rattle.archive_model.proofs.StateLemmas.{purged_ends}
use Rattle.archive_model.proofs.WellLemmas.{both}
use Rattle.control_core.specs.Exact.{frames_end}
use Rattle.control_core.proofs.FoundLemmas.{each_filter, each_weaker}
use Rattle.control_core.proofs.PollLemmas.{each_first}

or_left : {a : Bool} (b : Bool) → a ≡ true → (a || b) ≡ true
or_left b is = rw is refl

or_right : (a : Bool) {b : Bool} → b ≡ true → (a || b) ≡ true
or_right true is = refl
or_right false is = is

either : {a b : Bool} → (a || b) ≡ true → (a ≡ true) ⊎ (b ≡ true)
either {a = true} {b = b} h = inl refl
either {a = false} {b = b} h = inr h

same_test : (m n : ℤ) → m ≡ n → int_eq m n ≡ true
same_test m n is = (Decides-int_eq m n).1 is

any_left : {X : Type 0} (test : X → Bool) (xs ys : List X) → list_any test xs ≡ true → list_any test (xs ++ ys) ≡ true
any_left test [] ys is = absurd (true≢false (sym is))
any_left test (x ∷ xs) ys is = by (test x) is (any_left test xs ys)
  where
    by : (b : Bool) → (b || list_any test xs) ≡ true → (list_any test xs ≡ true → list_any test (xs ++ ys) ≡ true) → (b || list_any test (xs ++ ys)) ≡ true
    by true is rest = refl
    by false is rest = rest is

any_right : {X : Type 0} (test : X → Bool) (xs ys : List X) → list_any test ys ≡ true → list_any test (xs ++ ys) ≡ true
any_right test [] ys is = is
any_right test (x ∷ xs) ys is = or_right (test x) (any_right test xs ys is)

any_either : {X : Type 0} (test : X → Bool) (xs ys : List X) → list_any test (xs ++ ys) ≡ true → (list_any test xs ≡ true) ⊎ (list_any test ys ≡ true)
any_either test [] ys is = inr is
any_either test (x ∷ xs) ys is = by (test x) is (any_either test xs ys)
  where
    by : (b : Bool) → (b || list_any test (xs ++ ys)) ≡ true → (list_any test (xs ++ ys) ≡ true → (list_any test xs ≡ true) ⊎ (list_any test ys ≡ true)) → ((b || list_any test xs) ≡ true) ⊎ (list_any test ys ≡ true)
    by true is rest = inl refl
    by false is rest = rest is

-- which boundary a position is
abbrev pub IsOneOf : ℤ → Recording → Type 0
IsOneOf p r = (p ≡ r.descriptor.start_position) ⊎ ((p ≡ recorded_position r) ⊎ (begins_frame p r ≡ true))

one_of : (p : ℤ) (r : Recording) → is_boundary p r ≡ true → IsOneOf p r
one_of p r is = by (either is)
  where
    ends : (int_eq p r.descriptor.start_position ≡ true) ⊎ (int_eq p (recorded_position r) ≡ true) → IsOneOf p r
    ends (inl start) = inl ((Decides-int_eq p r.descriptor.start_position).0 start)
    ends (inr recorded) = inr (inl ((Decides-int_eq p (recorded_position r)).0 recorded))

    by : ((int_eq p r.descriptor.start_position || int_eq p (recorded_position r)) ≡ true) ⊎ (begins_frame p r ≡ true) → IsOneOf p r
    by (inl end) = ends (either end)
    by (inr begins) = inr (inr begins)

pub boundary_of : (p : ℤ) (r : Recording) → IsOneOf p r → is_boundary p r ≡ true
boundary_of p r (inl start) = or_left (begins_frame p r) (or_left (int_eq p (recorded_position r)) (same_test p r.descriptor.start_position start))
boundary_of p r (inr (inl recorded)) = or_left (begins_frame p r) (or_right (int_eq p r.descriptor.start_position) (same_test p (recorded_position r) recorded))
boundary_of p r (inr (inr begins)) = or_right (int_eq p r.descriptor.start_position || int_eq p (recorded_position r)) begins

-- ---- blocks that join

abbrev pub HasFirst : List Frame → Type 0
HasFirst fs = (f : Frame) × ((rest : List Frame) × (fs ≡ f ∷ rest))

first_frame : (g : Geometry) (publication : Publication) (position : ℤ) (fs more : List Frame) → AreBlockOf g publication fs position → HasFirst (fs ++ more)
first_frame g publication position [] more block = absurd block
first_frame g publication position (f ∷ fs) more block = (f, (fs ++ more, refl))

first_of_blocks : (g : Geometry) (publication : Publication) (position : ℤ) (blocks : List Block) → blocks ≢ [] → AreBlocksFrom g publication position blocks → HasFirst (frames_of blocks)
first_of_blocks g publication position [] some blocks = absurd (some refl)
first_of_blocks g publication position (b ∷ bs) some blocks = first_frame g publication b.position b.frames (frames_of bs) blocks.0

begins_first : (p at : ℤ) (fs : List Frame) → p ≡ at → HasFirst fs → list_any (λ f. int_eq p f.position) (placed at fs) ≡ true
begins_first p at fs is (f, (rest, same)) = rw same (or_left _ (same_test p at is))

pub boundary_appended : (blocks : List Block) (r : Recording) (p : ℤ) → Continue r blocks → is_boundary p r ≡ true → is_boundary p (appended blocks r) ≡ true
boundary_appended blocks r p next is = by (one_of p r is)
  where
    test : PolledFrame → Bool
    test f = int_eq p f.position

    new : List PolledFrame
    new = placed (recorded_position r) (frames_of blocks)

    begins : list_any test (placed_frames r ++ new) ≡ true → is_boundary p (appended blocks r) ≡ true
    begins any = boundary_of p (appended blocks r) (inr (inr (ap (list_any test) (placed_appended blocks r) ∙ any)))

    by : IsOneOf p r → is_boundary p (appended blocks r) ≡ true
    by (inl start) = boundary_of p (appended blocks r) (inl start)
    by (inr (inl recorded)) =
        begins (any_right test (placed_frames r) new
        (begins_first p (recorded_position r) (frames_of blocks) recorded (first_of_blocks _ _ (recorded_position r) blocks next.0 next.1)))
    by (inr (inr begun)) = begins (any_left test (placed_frames r) new begun)

-- ---- segments that are purged

-- the frames that stay stand behind others
abbrev pub Behind : ℤ → ℕ → List Frame → Type 0
Behind p at fs = (front : List Frame) × (fs ≡ front ++ frames_in (filter (λ f. int_le p f.position) (placed (pos at) fs)))

behind : (p : ℤ) (at : ℕ) (fs : List Frame) → Behind p at fs
behind p at [] = ([], refl)
behind p at (f ∷ fs) = by (int_lt (pos at) p) refl (behind p (at + aligned_length f) fs)
  where
    by : (b : Bool) → int_lt (pos at) p ≡ b → Behind p (at + aligned_length f) fs → Behind p at (f ∷ fs)
    by true before rest = (f ∷ rest.0, rw (unreached p at before) (ap (λ xs. f ∷ xs) rest.1))
    by false reached rest = ([], sym (begun_all p at (f ∷ fs) reached))

-- a frame begins at or before the end of those that it stands among
begins_low : (q at : ℤ) (fs : List Frame) → list_any (λ f. int_eq q f.position) (placed at fs) ≡ true → q ≤ℤ (at +ℤ pos (covered fs))
begins_low q at [] is = absurd (true≢false (sym is))
begins_low q at (f ∷ fs) is = by (int_eq q at) refl is (begins_low q (at +ℤ pos (aligned_length f)) fs)
  where
    by : (b : Bool) → int_eq q at ≡ b → (b || list_any (λ g. int_eq q g.position) (placed (at +ℤ pos (aligned_length f)) fs)) ≡ true
        → (list_any (λ g. int_eq q g.position) (placed (at +ℤ pos (aligned_length f)) fs) ≡ true → q ≤ℤ ((at +ℤ pos (aligned_length f)) +ℤ pos (covered fs))) → q ≤ℤ (at +ℤ pos (covered (f ∷ fs)))
    by true here any later = let same : q ≡ at = (Decides-int_eq q at).0 here in omega (arith, ints, same)
    by false here any later = let low = later any in omega (arith, ints, low)

base_behind : (p : ℤ) (r : Registration) → is_later_base p r ≡ true → pos (unsigned_abs r.descriptor.start_position) <ℤ p
unfolding is_later_base
base_behind (negsuc p) r is = absurd (true≢false (sym is))
base_behind (pos p) r is =
    let parts : ((nat_lt (unsigned_abs r.descriptor.start_position) p && int_le (pos p) r.recorded) ≡ true) × ((base_of r.descriptor p == p) ≡ true) = both is in
    let low : (nat_lt (unsigned_abs r.descriptor.start_position) p ≡ true) × (int_le (pos p) r.recorded ≡ true) = both parts.0 in
    let less : unsigned_abs r.descriptor.start_position < p = (let first = low.0 in grind (arith, nat_tests)) in
    omega (arith, ints, less)

from_zero : (z : ℤ) → pos 0 ≤ℤ z → (n : ℕ) × (z ≡ pos n)
from_zero (pos n) low = (n, refl)
from_zero (negsuc n) low = absurd (omega (arith, ints))

-- a frame that begins at a position is not among those in front of it, but at it or behind it
purge_parts : (p q start : ℤ) (front left : List Frame) → start +ℤ pos (covered front) ≡ p → p ≤ℤ q → list_any (λ f. int_eq q f.position) (placed start (front ++ left)) ≡ true
    → (q ≡ p) ⊎ (list_any (λ f. int_eq q f.position) (placed p left) ≡ true)
purge_parts p q start front left sum from begins =
    let test : PolledFrame → Bool = λ f. int_eq q f.position in
    let parts : placed start (front ++ left) ≡ placed start front ++ placed p left = placed-append start front left ∙ ap (λ (z : ℤ). placed start front ++ placed z left) sum in
    by (any_either test (placed start front) (placed p left) (ap (list_any test) (sym parts) ∙ begins))
  where
    by : (list_any (λ f. int_eq q f.position) (placed start front) ≡ true) ⊎ (list_any (λ f. int_eq q f.position) (placed p left) ≡ true) → (q ≡ p) ⊎ (list_any (λ f. int_eq q f.position) (placed p left) ≡ true)
    by (inl early) = let low = begins_low q start front early in inl (omega (arith, ints, low, sum, from))
    by (inr late) = inr late

-- a frame that begins there stays
begun_purged : (r : Recording) (p q : ℤ) (at : ℕ) → r.descriptor.start_position ≡ pos at → recorded_position (purged p r) ≡ recorded_position r → p ≤ℤ q → begins_frame q r ≡ true → IsOneOf q (purged p r)
begun_purged r p q at start ends from begins =
    let split : Behind p at r.frames = behind p at r.frames in
    let left : List Frame = (purged p r).frames in
    let stays : frames_in (filter (λ f. int_le p f.position) (placed (pos at) r.frames)) ≡ left = ap (λ (z : ℤ). frames_in (filter (λ f. int_le p f.position) (placed z r.frames))) (sym start) in
    let whole : r.frames ≡ split.0 ++ left = split.1 ∙ ap (λ (fs : List Frame). split.0 ++ fs) stays in
    let sums : covered r.frames ≡ covered split.0 + covered left = ap covered whole ∙ covered-append split.0 left in
    let last : p +ℤ pos (covered left) ≡ r.descriptor.start_position +ℤ pos (covered r.frames) = ends in
    let sum : r.descriptor.start_position +ℤ pos (covered split.0) ≡ p = omega (arith, ints, sums, last) in
    let any : list_any (λ f. int_eq q f.position) (placed r.descriptor.start_position (split.0 ++ left)) ≡ true = ap (λ (fs : List Frame). list_any (λ f. int_eq q f.position) (placed r.descriptor.start_position fs)) (sym whole) ∙ begins in
    by (purge_parts p q r.descriptor.start_position split.0 left sum from any)
  where
    by : (q ≡ p) ⊎ (list_any (λ f. int_eq q f.position) (placed p (purged p r).frames) ≡ true) → IsOneOf q (purged p r)
    by (inl first) = inl first
    by (inr begun) = inr (inr begun)

pub boundary_purged : (r : Recording) (p q : ℤ) → IsKept r → is_later_base p (registration_of r) ≡ true → p ≤ℤ q → is_boundary q r ≡ true → is_boundary q (purged p r) ≡ true
boundary_purged r p q kept base from is = boundary_of q (purged p r) (by (one_of q r is))
  where
    by : IsOneOf q r → IsOneOf q (purged p r)
    by (inl start) =
        let low = kept.start in
        let at = from_zero r.descriptor.start_position low in
        let before : pos at.0 <ℤ p = subst (λ (z : ℤ). pos (unsigned_abs z) <ℤ p) at.1 (base_behind p (registration_of r) base) in
        let sum = at.1 in
        absurd (omega (arith, ints, before, start, sum, from))
    by (inr (inl recorded)) = inr (inl (recorded ∙ sym (purged_ends r p kept base)))
    by (inr (inr begins)) = let at = from_zero r.descriptor.start_position kept.start in begun_purged r p q at.0 at.1 (purged_ends r p kept base) from begins

-- ---- polls

-- where a frame ends another begins, or all end
abbrev pub EndsAt : ℤ → List Frame → PolledFrame → Type 0
EndsAt at fs f = ((f.position +ℤ pos (aligned_length f.frame)) ≡ (at +ℤ pos (covered fs))) ⊎ (list_any (λ g. int_eq (f.position +ℤ pos (aligned_length f.frame)) g.position) (placed at fs) ≡ true)

first_ends : (at : ℤ) (f : Frame) (fs : List Frame) → EndsAt at (f ∷ fs) (record { position = at; frame = f })
first_ends at f [] = inl (omega (arith, ints))
first_ends at f (g ∷ fs) = inr (or_right (int_eq (at +ℤ pos (aligned_length f)) at) (or_left _ (same_test (at +ℤ pos (aligned_length f)) (at +ℤ pos (aligned_length f)) refl)))

later_ends : (at : ℤ) (f : Frame) (fs : List Frame) (x : PolledFrame) → EndsAt (at +ℤ pos (aligned_length f)) fs x → EndsAt at (f ∷ fs) x
later_ends at f fs x (inl last) = inl (omega (arith, ints, last))
later_ends at f fs x (inr begins) = inr (or_right (int_eq (x.position +ℤ pos (aligned_length x.frame)) at) begins)

all_end : (at : ℤ) (fs : List Frame) → Each (EndsAt at fs) (placed at fs)
all_end at [] = tt
all_end at (f ∷ fs) =
    (first_ends at f fs, each_weaker (EndsAt (at +ℤ pos (aligned_length f)) fs) (EndsAt at (f ∷ fs)) (placed (at +ℤ pos (aligned_length f)) fs) (later_ends at f fs) (all_end (at +ℤ pos (aligned_length f)) fs))

-- a frame ends at a boundary
abbrev pub EndsWell : Recording → PolledFrame → Type 0
EndsWell r f = is_boundary (f.position +ℤ pos (aligned_length f.frame)) r ≡ true

ends_well : (r : Recording) (f : PolledFrame) → EndsAt r.descriptor.start_position r.frames f → EndsWell r f
ends_well r f (inl last) = boundary_of (f.position +ℤ pos (aligned_length f.frame)) r (inr (inl last))
ends_well r f (inr begins) = boundary_of (f.position +ℤ pos (aligned_length f.frame)) r (inr (inr begins))

last_end : (r : Recording) (from : ℤ) (fs : List PolledFrame) → is_boundary from r ≡ true → Each (EndsWell r) fs → is_boundary (frames_end from fs) r ≡ true
last_end r from [] at all = at
last_end r from (f ∷ fs) at all = last_end r (f.position +ℤ pos (aligned_length f.frame)) fs all.0 all.1

pub boundary_polled : (r : Recording) (next bound : ℤ) (n : ℕ) → is_boundary next r ≡ true → is_boundary (frames_end next (polled next bound n r)) r ≡ true
boundary_polled r next bound n at =
    last_end r next (polled next bound n r) at
    (each_first (EndsWell r) n (filter (is_between next bound) (placed_frames r))
    (each_filter (EndsWell r) (EndsWell r) (is_between next bound) (placed_frames r) (λ f is ends. ends)
    (each_weaker (EndsAt r.descriptor.start_position r.frames) (EndsWell r) (placed_frames r) (ends_well r) (all_end r.descriptor.start_position r.frames))))
