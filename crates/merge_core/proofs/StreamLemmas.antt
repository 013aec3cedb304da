-- Offers of one stream, and what comes out of them.
use Rattle.std.proofs.Common.{◌≡◌, ◌<◌, ◌≤◌, ◌+◌, ◌==◌, ℕ, Bool, true, false, if◌then◌else◌, List, [], ◌∷◌, ◌++◌, inl, inr, Option, None, Some, refl, sym, ap, ◌∙◌, subst, arith, rules}
use Rattle.std.specs.Prelude.{Result, Ok, Err, Contains, ◌⊎◌}
use Rattle.std.proofs.lemmas.List.Elements.{Contains-append_cases, Contains-push_cases}
use Rattle.std.proofs.lemmas.Option.{same_Some}
use Rattle.std.specs.List.{AllByRecursion}
use Rattle.frame_core.specs.declared.frame.FrameKind.{FrameKind}
use Rattle.frame_core.specs.declared.frame.FrameKind.TheVariants.{Pad, Message, Heartbeat}
use Rattle.frame_core.specs.declared.frame.Frame.{Frame}
use Rattle.frame_core.specs.declared.geometry.Geometry.{Geometry}
use Rattle.frame_core.specs.declared.refusal.Refusal.{Refusal}
use Rattle.frame_core.specs.FrameEncoding.{aligned_length}
use Rattle.frame_core.specs.Position.{frame_position}
use Rattle.merge_core.specs.declared.merge.Offered.{Offered}
use Rattle.merge_core.specs.declared.merge.Offered.TheVariants.{Held, Ignored, Full}
use Rattle.merge_core.specs.Merge.{Merging, opened_merge, offer_of, offer_position, offered_at, with_frame, with_live_end, joins_at, after_replay_at, after_live_at, after_replay_frame, after_live_frame, next_frame, past}
use Rattle.merge_core.specs.Runs.{MergeStep, taken, output, FramesFollow, AreOf, from, IsBeginning}
use Rattle.merge_core.specs.Runs.MergeStep.{ReplayFrame, LiveFrame, Take}
use Rattle.merge_core.proofs.HeldLemmas.{all_insert, all_remove, all_found}

-- a frame of a stream is its first, or one of the others
of_cases : (x : Frame) (xs : List Frame) (f : Frame) → Contains (x ∷ xs) f → (f ≡ x) ⊎ Contains xs f
of_cases x xs f of = elim (Contains-append_cases (x ∷ []) xs f of) [
  | inl first ↦ elim (Contains-push_cases [] x f first) [ inl none ↦ absurd (omega (arith, none.1)) | inr same ↦ inl (sym same) ]
  | inr other ↦ inr other
]

-- a frame of a stream begins at or behind the stream's start
not_before : (g : Geometry) (stream : List Frame) (start p : ℕ) (f : Frame) → FramesFollow g start stream → Contains stream f → frame_position g f ≡ Some p → start ≤ p
not_before g [] start p f follow of at_position = absurd (omega (arith, of.1))
not_before g (x ∷ xs) start p f follow of at_position = elim (of_cases x xs f of) [
  | inl same ↦ let here : start ≡ p = same_Some _ _ (sym follow.0 ∙ ap (frame_position g) (sym same) ∙ at_position) in omega arith
  | inr other ↦ let behind : start + aligned_length x ≤ p = not_before g xs (start + aligned_length x) p f follow.2 other at_position in omega arith
]

differ : (x y : ℕ) → y < x → (x == y) ≡ false
differ x y h = grind arith

equal : (x : ℕ) → (x == x) ≡ true
equal x = grind arith

from_start : (p : ℕ) (stream : List Frame) → from p p stream ≡ stream
from_start p [] = refl
from_start p (x ∷ xs) = rw (equal p) refl

-- behind a frame of a stream, the stream goes on at that frame's end
from_at : (g : Geometry) (stream : List Frame) (start p : ℕ) (f : Frame) → FramesFollow g start stream → Contains stream f → frame_position g f ≡ Some p
    → from p start stream ≡ f ∷ from (p + aligned_length f) start stream
from_at g [] start p f follow of at_position = absurd (omega (arith, of.1))
from_at g (x ∷ xs) start p f follow of at_position = elim (of_cases x xs f of) [
  | inl same ↦
      let here : start ≡ p = same_Some _ _ (sym follow.0 ∙ ap (frame_position g) (sym same) ∙ at_position) in
      let some : 0 < aligned_length x = follow.1 in
      let size : aligned_length f ≡ aligned_length x = ap aligned_length same in
      let at : (p == start) ≡ true = grind arith in
      let past_it : ((p + aligned_length f) == start) ≡ false = differ (p + aligned_length f) start (grind arith) in
      let end : start + aligned_length x ≡ p + aligned_length f = grind arith in
      rw (at, past_it) (ap (λ h. h ∷ xs) (sym same) ∙ ap (λ rest. f ∷ rest) (sym (from_start (p + aligned_length f) xs) ∙ ap (λ q. from (p + aligned_length f) q xs) (sym end)))
  | inr other ↦
      let behind : start + aligned_length x ≤ p = not_before g xs (start + aligned_length x) p f follow.2 other at_position in
      let some : 0 < aligned_length x = follow.1 in
      let later : (p == start) ≡ false = differ p start (grind arith) in
      let still_later : ((p + aligned_length f) == start) ≡ false = differ (p + aligned_length f) start (grind arith) in
      rw (later, still_later) (from_at g xs (start + aligned_length x) p f follow.2 other at_position)
]

-- a held frame is one of the stream, and lies at its position
abbrev IsHeldOf : Geometry → List Frame → ℕ × Frame → Type 0
IsHeldOf g stream e = (frame_position g e.1 ≡ Some e.0) × Contains stream e.1

-- a merge that holds frames of the stream
record HoldsStream (g : Geometry) (stream : List Frame) (cursor : ℕ) (m : Merging) : Type 0 where
  same : m.geometry ≡ g
  stands : m.cursor ≡ cursor
  held : AllByRecursion (IsHeldOf g stream) m.held

pub offer_at : (kind : FrameKind) (at_position : Option ℕ) (p : ℕ) → offer_of kind at_position ≡ Ok p → at_position ≡ Some p
offer_at Heartbeat at_position p ok = search (rules, ok)
offer_at Pad None p ok = search (rules, ok)
offer_at Pad (Some q) p ok = search (rules, ok)
offer_at Message None p ok = search (rules, ok)
offer_at Message (Some q) p ok = search (rules, ok)

module _ (g : Geometry) (stream : List Frame) (cursor : ℕ) where
  with_frame_keeps : (m : Merging) (p : ℕ) (f : Frame) → frame_position g f ≡ Some p → Contains stream f → HoldsStream g stream cursor m
      → (offered : Offered) → HoldsStream g stream cursor (with_frame p f offered m)
  with_frame_keeps m p f at_position of h Held = record {
    same = h.same;
    stands = h.stands;
    held = all_insert (IsHeldOf g stream) m.held p f (at_position, of) h.held;
  }
  with_frame_keeps m p f at_position of h Ignored = h
  with_frame_keeps m p f at_position of h Full = h

  live_end_keeps : (m : Merging) (end : ℕ) → HoldsStream g stream cursor m → HoldsStream g stream cursor (with_live_end end m)
  live_end_keeps m end h = record { same = h.same; stands = h.stands; held = h.held }

  either_keeps : (joins : Bool) (end : ℕ) (m : Merging) → HoldsStream g stream cursor m → HoldsStream g stream cursor (if joins then with_live_end end m else m)
  either_keeps true end m h = live_end_keeps m end h
  either_keeps false end m h = h

  position_of : (m : Merging) (f : Frame) (p : ℕ) → HoldsStream g stream cursor m → offer_position m.geometry f ≡ Ok p → frame_position g f ≡ Some p
  position_of m f p h found = subst (λ y. frame_position y f ≡ Some p) h.same (offer_at f.kind (frame_position m.geometry f) p found)

  replay_at_keeps : (m : Merging) (f : Frame) → Contains stream f → HoldsStream g stream cursor m → (found : Result ℕ Refusal)
      → offer_position m.geometry f ≡ found → HoldsStream g stream cursor (after_replay_at f m found)
  replay_at_keeps m f of h (Err refusal) is = h
  replay_at_keeps m f of h (Ok p) is = with_frame_keeps m p f (position_of m f p h is) of h (offered_at p m)

  live_at_keeps : (m : Merging) (f : Frame) → Contains stream f → HoldsStream g stream cursor m → (found : Result ℕ Refusal)
      → offer_position m.geometry f ≡ found → HoldsStream g stream cursor (after_live_at f m found)
  live_at_keeps m f of h (Err refusal) is = h
  live_at_keeps m f of h (Ok p) is =
      either_keeps (joins_at (p + aligned_length f) p (offered_at p m) m) (p + aligned_length f) (with_frame p f (offered_at p m) m)
      (with_frame_keeps m p f (position_of m f p h is) of h (offered_at p m))

-- the frames that come out next, and the stream from there on
begins_with : (f : Frame) (out rest : List Frame) → IsBeginning out rest → IsBeginning (f ∷ out) (f ∷ rest)
begins_with f out rest b = (b.0, ap (λ y. f ∷ y) b.1)

module _ (g : Geometry) (start : ℕ) (stream : List Frame) (follow : FramesFollow g start stream) where
  -- what comes out where this frame is held at the cursor, where what comes out then is known
  take_gives : (m : Merging) (out : Merging → List Frame) → HoldsStream g stream m.cursor m
      → ((new : Merging) → HoldsStream g stream new.cursor new → IsBeginning (out new) (from new.cursor start stream))
      → (found : Option Frame) → next_frame m ≡ found
      → IsBeginning (taken found ++ out (past found m)) (from m.cursor start stream)
  take_gives m out h goes None is = goes m h
  take_gives m out h goes (Some f) is =
      let of : IsHeldOf g stream (m.cursor, f) = all_found (IsHeldOf g stream) m.held m.cursor f h.held is in
      let after : HoldsStream g stream (past (Some f) m).cursor (past (Some f) m) = record {
        same = h.same;
        stands = refl;
        held = all_remove (IsHeldOf g stream) m.held m.cursor h.held;
      }
      in
      let begins : IsBeginning (f ∷ out (past (Some f) m)) (f ∷ from (m.cursor + aligned_length f) start stream) =
      begins_with f (out (past (Some f) m)) (from (m.cursor + aligned_length f) start stream) (goes (past (Some f) m) after)
      in
      rw (from_at g stream start m.cursor f follow of.1 of.0) begins

  output_begins : (steps : List MergeStep) (m : Merging) → HoldsStream g stream m.cursor m → AreOf stream steps
      → IsBeginning (output steps m) (from m.cursor start stream)
  output_begins [] m h of = (from m.cursor start stream, refl)
  output_begins (ReplayFrame f ∷ steps) m h of =
      let new : Merging = after_replay_frame f m in
      let k : HoldsStream g stream m.cursor new = replay_at_keeps g stream m.cursor m f of.0 h (offer_position m.geometry f) refl in
      subst (λ c. IsBeginning (output steps new) (from c start stream)) k.stands
      (output_begins steps new (record { same = k.same; stands = refl; held = k.held }) of.1)
  output_begins (LiveFrame f ∷ steps) m h of =
      let new : Merging = after_live_frame f m in
      let k : HoldsStream g stream m.cursor new = live_at_keeps g stream m.cursor m f of.0 h (offer_position m.geometry f) refl in
      subst (λ c. IsBeginning (output steps new) (from c start stream)) k.stands
      (output_begins steps new (record { same = k.same; stands = refl; held = k.held }) of.1)
  output_begins (Take ∷ steps) m h of = take_gives m (output steps) h (λ new. λ k. output_begins steps new k of) (next_frame m) refl

-- whatever is offered of one stream, what comes out is a beginning of the stream from where the merge began
pub gives_a_beginning : (g : Geometry) (opening start : ℕ) (stream : List Frame) (steps : List MergeStep) → FramesFollow g start stream → AreOf stream steps
    → IsBeginning (output steps (opened_merge g opening)) (from opening start stream)
gives_a_beginning g opening start stream steps follow of =
    output_begins g start stream follow steps (opened_merge g opening) (record { same = refl; stands = refl; held = search rules }) of
