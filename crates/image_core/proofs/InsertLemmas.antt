-- The frames of a datagram, one after another.
use Rattle.std.proofs.Common.{◌≡◌, ◌∙◌, refl, ◌+◌, ◌≤◌, ℕ, List, [], ◌∷◌, drop, length, ◌<◌, add-one, slice_index_or, false, arith}
use Rattle.std.proofs.Math.Seq.{drop-cons}
use Rattle.std.specs.Prelude.{map}
use Rattle.frame_core.specs.declared.frame.Frame.{Frame}
use Rattle.frame_core.specs.declared.frame.FrameRef.{FrameRef}
use Rattle.frame_core.specs.Block.{AreEncodable}
use Rattle.frame_core.specs.FrameEncoding.{IsEncodable, frame_of}
use Rattle.image_core.specs.declared.fate.Fate.{Fate}
use Rattle.image_core.specs.declared.fate.Fate.TheVariants.{Joins, Tells, Drops}
use Rattle.image_core.specs.declared.inserted.Inserted.{Inserted}
use Rattle.image_core.specs.Received.{Received, fate, received, received_all}
use Rattle.image_core.specs.Insert.{TakesIn, counted, tally, uncounted}
use Rattle.image_core.specs.Kept.{undone}
use Rattle.image_core.proofs.ReceivedLemmas.{all_stand}
use Rattle.std.proofs.lemmas.List.{drop_all}

-- some frames were taken in, and the rest is left
pub record GoesOn (start : Received) (high : ℕ) (frames : List FrameRef) (index : ℕ) (inserted : Inserted) (noted : List ℕ) (now : Received) (rest : List FrameRef) : Type 0 where
  pub counts : tally inserted now (map frame_of rest) ≡ tally (uncounted false) start (map frame_of frames)
  pub after : received_all now (map frame_of rest) ≡ received_all start (map frame_of frames)
  pub back : undone noted high now ≡ start
  pub few : inserted.held + inserted.dropped ≤ index
  pub encodable : AreEncodable (map frame_of rest)

few_more : (i : Inserted) (it : Fate) (index : ℕ) → i.held + i.dropped ≤ index → (counted i it).held + (counted i it).dropped ≤ index + 1
few_more i (Joins p) index few = omega arith
few_more i (Tells p) index few = omega arith
few_more i Drops index few = omega arith

next_is : (fs : List FrameRef) (i : ℕ) (d : FrameRef) → i < length fs → drop i fs ≡ slice_index_or fs i d ∷ drop (i + 1) fs
next_is fs i d within = rw (add-one, drop-cons fs i d) refl

-- one frame more
pub goes_at : (start : Received) (high : ℕ) (frames : List FrameRef) (i : ℕ) (inserted more : Inserted) (noted now_noted : List ℕ) (now new : Received) (d : FrameRef) (it : Fate)
    → i < length frames → GoesOn start high frames i inserted noted now (drop i frames) → it ≡ fate now (frame_of (slice_index_or frames i d)) → new ≡ received now (frame_of (slice_index_or frames i d))
    → undone now_noted high new ≡ undone noted high now → more ≡ counted inserted it → GoesOn start high frames (i + 1) more now_noted new (drop (i + 1) frames)
goes_at start high frames i inserted more noted now_noted now new d it within on is new_is back more_is =
    let so = rw (next_is frames i d within) at on in
    record {
      counts = rw (more_is, is, new_is) so.counts;
      after = rw new_is so.after;
      back = back ∙ so.back;
      few = rw more_is (few_more inserted it i so.few);
      encodable = so.encodable.1;
    }

-- the next frame has an encoding
pub encodable_at : (start : Received) (high : ℕ) (frames : List FrameRef) (i : ℕ) (inserted : Inserted) (noted : List ℕ) (now : Received) (d : FrameRef)
    → i < length frames → GoesOn start high frames i inserted noted now (drop i frames) → IsEncodable (frame_of (slice_index_or frames i d))
encodable_at start high frames i inserted noted now d within so = let here = rw (next_is frames i d within) at so.encodable in here.0

counted_up : (i : Inserted) (it : Fate) → i.held ≤ (counted i it).held
counted_up i (Joins p) = omega arith
counted_up i (Tells p) = omega arith
counted_up i Drops = omega arith

-- no fewer are held with further frames
tally_up : (i : Inserted) (r : Received) (fs : List Frame) → i.held ≤ (tally i r fs).held
tally_up i r [] = omega arith
tally_up i r (f ∷ fs) = let one = counted_up i (fate r f) in let rest = tally_up (counted i (fate r f)) (received r f) fs in omega arith

-- one that joins is held
pub joins_at : (start : Received) (high : ℕ) (frames : List FrameRef) (i : ℕ) (inserted : Inserted) (noted : List ℕ) (now : Received) (d : FrameRef) (p : ℕ)
    → i < length frames → GoesOn start high frames i inserted noted now (drop i frames) → fate now (frame_of (slice_index_or frames i d)) ≡ Joins p → 0 < (tally (uncounted false) start (map frame_of frames)).held
joins_at start high frames i inserted noted now d p within on is =
    let so = rw (next_is frames i d within) at on in
    let f : Frame = frame_of (slice_index_or frames i d) in
    let up = tally_up (counted inserted (fate now f)) (received now f) (map frame_of (drop (i + 1) frames)) in
    let one : (counted inserted (fate now f)).held ≡ inserted.held + 1 = rw is refl in
    rw (← so.counts) (omega (arith, up, one))

-- behind the last frame all are taken in
pub all_taken : (start : Received) (high : ℕ) (frames : List FrameRef) (i : ℕ) (inserted : Inserted) (noted : List ℕ) (now : Received)
    → length frames ≤ i → GoesOn start high frames i inserted noted now (drop i frames) → TakesIn start (map frame_of frames) inserted now
all_taken start high frames i inserted noted now past on =
    let so = rw (drop_all i frames past) at on in
    record {
      counts = so.counts;
      after = so.after;
      whole = λ all stands. rw so.after (all_stand all start stands (map frame_of frames));
    }
