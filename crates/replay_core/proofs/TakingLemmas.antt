-- Frames that were handed on so far, and one more.
use Rattle.std.proofs.Common.{◌≡◌, ◌∙◌, sym, ap, subst, refl, inl, inr, ℕ, ℤ, pos, ◌≤ℤ◌, ◌<ℤ◌, ◌+ℤ◌, ◌+◌, ◌<◌, ◌≤◌, Bool, IsTrue, List, [], ◌∷◌, ◌++◌, length, length-append, append_assoc, append-nil, arith}
use Rattle.std.proofs.lemmas.Int.{ints}
use Rattle.std.specs.Prelude.{unsigned_abs}
use Rattle.disk_core.specs.DiskImage.{DiskImage, Files, reads}
use Rattle.disk_core.specs.Life.{Life, IsQuiet}
use Rattle.frame_core.specs.declared.frame.Frame.{Frame}
use Rattle.frame_core.specs.declared.geometry.Geometry.{Geometry}
use Rattle.frame_core.specs.declared.refusal.Refusal.{Refusal}
use Rattle.frame_core.specs.declared.refusal.Refusal.TheVariants.{Damaged, DeviceFault, NoMemory}
use Rattle.frame_core.specs.Block.{covered}
use Rattle.frame_core.specs.FrameEncoding.{aligned_length}
use Rattle.segment_store.specs.declared.layout.Layout.{Layout}
use Rattle.segment_store.specs.DamagedFrame.{IsDamaged, RefusesFrame}
use Rattle.replay_core.specs.Pages.{KeepsRead, Pages}
use Rattle.replay_core.specs.Poll.{RefusesPoll}
use Rattle.replay_core.specs.Taking.{HandsOne, RefusesHanding, StepsThrough}
use Rattle.replay_core.specs.declared.taking.FrameCopies.{FrameCopies}
use Rattle.replay_core.proofs.PollLemmas.{HasRead, one_more, reads_one}

-- what is not read is not handed on
pub refuses_handing : (obeys : Bool) (image : DiskImage) (l : Layout) (g : Geometry) (limit position : ℤ) (refusal : Refusal) → RefusesFrame obeys image l g limit position refusal
    → RefusesHanding obeys image l g limit position refusal
refuses_handing obeys image l g limit position NoMemory is = tt
refuses_handing obeys image l g limit position refusal is = is

-- one disk stays as it is over two calls
pub quiet_over : (old mid new : Life) → IsQuiet old mid → IsQuiet mid new → IsQuiet old new
quiet_over old mid new before after = record {
  obeyed = λ obeys. before.obeyed (after.obeyed obeys);
  past = after.past ∙ before.past;
  now = after.now ∙ before.now;
  faults = omega (arith, after.faults, before.faults);
}

module _ {T : Type 0} (takes : T → ℤ → Frame → T → Type 0) where
  -- a frame more was taken, which begins where those so far end
  pub steps_more : (frames : List Frame) (at : ℤ) (f : Frame) (old mid new : T) → StepsThrough takes old at frames mid → takes mid (at +ℤ pos (covered frames)) f new
      → StepsThrough takes old at (frames ++ f ∷ []) new
  steps_more [] at f old mid new is taken =
      (new, subst (λ (z : ℤ). takes old z f new) (omega (arith, ints)) (subst (λ (t : T). takes t (at +ℤ pos (covered [])) f new) is taken), refl)
  steps_more (h ∷ hs) at f old mid new (first, took, rest) taken =
      (first, took, steps_more hs (at +ℤ pos (aligned_length h)) f first mid new rest (subst (λ (z : ℤ). takes mid z f new) (omega (arith, ints)) taken))

  -- what has been handed on of a poll: so many frames
  pub record HasHanded (begun now_taker : T) (old new : Life) (l : Layout) (g : Geometry) (generation : ℕ) (pages now_kept : Pages) (recorded bound : ℤ) (most : ℕ) (next at : ℤ) (count : ℕ) : Type 0 where
    pub frames : List Frame
    pub taken : StepsThrough takes begun next frames now_taker
    pub many : length frames ≡ count
    pub read : HasRead old new l g generation pages now_kept recorded bound most next at frames

  -- none has been handed on where the poll begins
  pub none_handed : (begun : T) (life : Life) (l : Layout) (g : Geometry) (generation : ℕ) (pages : Pages) (recorded bound : ℤ) (most : ℕ) (next at : ℤ) → at ≡ next
      → HasHanded begun begun life life l g generation pages pages recorded bound most next at 0
  none_handed begun life l g generation pages recorded bound most next at is = record {
    frames = [];
    taken = refl;
    many = refl;
    read = record {
      quiet = record { obeyed = λ obeys. obeys; past = refl; now = refl; faults = omega arith };
      onwards = omega (arith, ints, is);
      covers = omega (arith, ints, is);
      moved = inr (is, refl);
      few = omega arith;
      stand = λ obeys agree. ap unsigned_abs (sym is);
      before = λ low. tt;
      keeps = λ key page there. inl there;
    };
  }

  -- and one frame more
  pub handed_more : (begun before after : T) (old mid new : Life) (l layout : Layout) (g geometry : Geometry) (generation number : ℕ) (pages mid_kept new_kept : Pages) (recorded bound : ℤ) (most : ℕ) (next at end : ℤ) (count size : ℕ)
      → layout ≡ l → geometry ≡ g → number ≡ generation
      → HasHanded begun before old mid l g generation pages mid_kept recorded bound most next at count
      → HandsOne takes before after new.obeys (reads mid.now) layout geometry number mid_kept recorded at size
      → IsQuiet mid new → KeepsRead (IsTrue new.obeys) (reads mid.now) layout number recorded mid_kept new_kept
      → pos 0 ≤ℤ next → unsigned_abs l.start_position ≤ unsigned_abs next → count < most → at <ℤ bound → end ≡ at +ℤ pos size
      → HasHanded begun after old new l g generation pages new_kept recorded bound most next end (count + 1)
  handed_more begun before after old mid new l layout g geometry generation number pages mid_kept new_kept recorded bound most next at end count size layout_is geometry_is number_is handed one quiet keeps start from fewer low is =
      record {
        frames = handed.frames ++ one.frame ∷ [];
        taken = steps_more handed.frames next one.frame begun before after handed.taken (subst (λ (z : ℤ). takes before z one.frame after) handed.read.covers one.taken);
        many = length-append handed.frames (one.frame ∷ []) ∙ omega (arith, handed.many);
        read = one_more old mid new l g generation pages mid_kept new_kept recorded bound most next at handed.frames one.frame end handed.read
            (reads_one old mid new l g generation pages mid_kept new_kept recorded bound most next at handed.frames one.frame layout geometry number layout_is geometry_is number_is quiet one.shown one.ends one.some keeps)
            start from (omega (arith, handed.many, fewer)) low (omega (arith, ints, is, one.covers));
      }

  -- where no frame is handed on, the poll is refused
  pub refuses_poll : (begun before : T) (old mid new : Life) (l layout : Layout) (g geometry : Geometry) (generation number : ℕ) (pages mid_kept : Pages) (recorded bound : ℤ) (most : ℕ) (next at : ℤ) (count : ℕ) (refusal : Refusal)
      → layout ≡ l → geometry ≡ g
      → HasHanded begun before old mid l g generation pages mid_kept recorded bound most next at count
      → IsQuiet mid new → RefusesHanding new.obeys (reads mid.now) layout geometry recorded at refusal
      → pos 0 ≤ℤ next → count < most → at <ℤ bound → at <ℤ recorded
      → RefusesPoll new.obeys (reads old.now) l g generation pages recorded bound most (unsigned_abs next) refusal
  refuses_poll begun before old mid new l layout g geometry generation number pages mid_kept recorded bound most next at count DeviceFault layout_is geometry_is handed quiet refuses start fewer low within = tt
  refuses_poll begun before old mid new l layout g geometry generation number pages mid_kept recorded bound most next at count NoMemory layout_is geometry_is handed quiet refuses start fewer low within = tt
  refuses_poll begun before old mid new l layout g geometry generation number pages mid_kept recorded bound most next at count (Damaged recording there) layout_is geometry_is handed quiet refuses start fewer low within = (
    refuses.0 ∙ ap (λ (x : Layout). x.recording) layout_is,
    λ obeys. record {
      frames = handed.frames;
      to = unsigned_abs at;
      stand = handed.read.stand (quiet.obeyed obeys);
      fewer = omega (arith, handed.many, fewer);
      is = refuses.1 ∙ omega (arith, ints, start, handed.read.onwards);
      before = omega (arith, ints, start, handed.read.onwards, low);
      within = omega (arith, ints, start, handed.read.onwards, within);
      damaged = subst (λ (files : Files). IsDamaged (reads files) l g recorded (unsigned_abs at)) handed.read.quiet.now
          (subst (λ (terms : Geometry). IsDamaged (reads mid.now) l terms recorded (unsigned_abs at)) geometry_is
          (subst (λ (x : Layout). IsDamaged (reads mid.now) x geometry recorded (unsigned_abs at)) layout_is (refuses.2 obeys)));
    },
  )
  refuses_poll begun before old mid new l layout g geometry generation number pages mid_kept recorded bound most next at count refusal layout_is geometry_is handed quiet refuses start fewer low within = absurd refuses

-- what copies of a frame are beside those that were there
abbrev pub copies : FrameCopies → ℤ → Frame → FrameCopies → Type 0
copies old position frame new = new.frames.items ≡ old.frames.items ++ frame ∷ []

-- copies of frames that were taken one after another are these frames
pub copies_are : (frames : List Frame) (at : ℤ) (old new : FrameCopies) → StepsThrough copies old at frames new → new.frames.items ≡ old.frames.items ++ frames
copies_are [] at old new is = ap (λ (t : FrameCopies). t.frames.items) is ∙ sym (append-nil old.frames.items)
copies_are (f ∷ fs) at old new (mid, took, rest) =
    copies_are fs (at +ℤ pos (aligned_length f)) mid new rest ∙ ap (λ (xs : List Frame). xs ++ fs) took ∙ append_assoc old.frames.items (f ∷ []) fs

-- where there were none before, the copies are the frames that were taken
pub none_but_copies : (frames : List Frame) (at : ℤ) (old new : FrameCopies) → StepsThrough copies old at frames new → old.frames.items ≡ [] → frames ≡ new.frames.items
none_but_copies frames at old new taken none = sym (copies_are frames at old new taken ∙ ap (λ (xs : List Frame). xs ++ frames) none)
