-- Frames of a recording that are counted as they are read.
use Rattle.std.proofs.Common.{◌≡◌, ◌∙◌, ◌⊎◌, inl, inr, subst, ℕ, ℤ, pos, ◌+◌, ◌+ℤ◌, ◌-ℤ◌, ◌<◌, ◌≤ℤ◌, ◌<ℤ◌, IsTrue, List, [], ◌∷◌, ◌++◌, length, length-append, arith}
use Rattle.std.proofs.lemmas.Int.{ints}
use Rattle.std.specs.Prelude.{unsigned_abs}
use Rattle.disk_core.specs.DiskImage.{DiskImage, Files, reads}
use Rattle.disk_core.specs.Life.{Life, IsQuiet}
use Rattle.frame_core.specs.declared.frame.Frame.{Frame}
use Rattle.frame_core.specs.declared.refusal.Refusal.{Refusal}
use Rattle.frame_core.specs.declared.refusal.Refusal.TheVariants.{Damaged, DeviceFault, NoMemory}
use Rattle.frame_core.specs.FrameEncoding.{aligned_length}
use Rattle.segment_store.specs.Boundary.{IsChain}
use Rattle.segment_store.specs.DamagedFrame.{IsDamaged, RefusesFrame, ShowsFrame}
use Rattle.replay_core.proofs.PollLemmas.{chain_more}
use Rattle.archive_model.specs.declared.registration.Registration.{Registration}
use Rattle.archive_model.specs.State.{geometry_of}
use Rattle.control_core.specs.Orderly.{IsLaid}
use Rattle.recording_reads.specs.Reading.{HasFrames, RefusesCount}
use Rattle.recording_reads.specs.Recording.{layout_of}

abbrev first : Registration → ℤ
first g = g.descriptor.start_position

-- these frames are shown from a recording's start to a position
abbrev AreShown : DiskImage → Registration → List Frame → ℕ → Type 0
AreShown image g frames end = IsChain image (layout_of g.descriptor) (geometry_of g.descriptor) g.recorded (unsigned_abs (first g)) frames end

-- what has been counted so far
pub record HasCounted (old new : Life) (g : Registration) (at count : ℤ) : Type 0 where
  pub quiet : IsQuiet old new
  pub few : (first g +ℤ count) ≤ℤ at
  pub some : pos 0 ≤ℤ count
  pub within : (at ≤ℤ g.recorded) ⊎ (at ≡ first g)
  pub stand : IsTrue new.obeys → (frames : List Frame) × AreShown (reads old.now) g frames (unsigned_abs at) × (count ≡ pos (length frames))

-- a frame more
pub one_counted : (old mid new : Life) (g : Registration) (at end count more : ℤ) (f : Frame)
    → HasCounted old mid g at count → IsQuiet mid new → pos 0 ≤ℤ first g → 0 < aligned_length f
    → pos (unsigned_abs at + aligned_length f) ≤ℤ g.recorded
    → (IsTrue new.obeys → ShowsFrame (reads mid.now) (layout_of g.descriptor) (geometry_of g.descriptor) g.recorded (unsigned_abs at) f)
    → end ≡ at +ℤ pos (aligned_length f) → more ≡ count +ℤ pos 1 → HasCounted old new g end more
one_counted old mid new g at end count more f counted quiet start covers ends shown is one =
    let behind : unsigned_abs at + aligned_length f ≡ unsigned_abs end = omega (arith, ints, is, start, counted.few, counted.some) in
    record {
      quiet = record {
        obeyed = λ obeys. counted.quiet.obeyed (quiet.obeyed obeys);
        past = quiet.past ∙ counted.quiet.past;
        now = quiet.now ∙ counted.quiet.now;
        faults = omega (arith, quiet.faults, counted.quiet.faults);
      };
      few = omega (arith, ints, is, one, covers, counted.few);
      some = omega (arith, ints, one, counted.some);
      within = inl (omega (arith, ints, is, ends, start, counted.few, counted.some));
      stand = λ obeys.
          let before = counted.stand (quiet.obeyed obeys) in
          let here = subst (λ (files : Files). ShowsFrame (reads files) (layout_of g.descriptor) (geometry_of g.descriptor) g.recorded (unsigned_abs at) f) counted.quiet.now (shown obeys) in (
            before.0 ++ f ∷ [],
            subst (AreShown (reads old.now) g (before.0 ++ f ∷ [])) behind
                (chain_more (reads old.now) (layout_of g.descriptor) (geometry_of g.descriptor) g.recorded before.0 (unsigned_abs (first g)) (unsigned_abs at) f before.1 here),
            one ∙ omega (arith, ints, before.2, length-append before.0 (f ∷ [])),
          );
    }

-- less is left behind it
pub less_left : (at end recorded recorded' : ℤ) (size : ℕ) → recorded' ≡ recorded
    → end ≡ at +ℤ pos size → 0 < size → pos 0 ≤ℤ at → pos (unsigned_abs at + size) ≤ℤ recorded
    → unsigned_abs (recorded' -ℤ end) < unsigned_abs (recorded' -ℤ at)
less_left at end recorded recorded' size same is covers low within = omega (arith, ints)

-- where a frame is refused, counting is
pub count_refused : (old mid new : Life) (g : Registration) (at count : ℤ) (refusal : Refusal)
    → HasCounted old mid g at count → IsQuiet mid new → pos 0 ≤ℤ first g → at <ℤ g.recorded
    → RefusesFrame new.obeys (reads mid.now) (layout_of g.descriptor) (geometry_of g.descriptor) g.recorded at refusal → RefusesCount new.obeys (reads old.now) g refusal
count_refused old mid new g at count DeviceFault counted quiet start due refuses = tt
count_refused old mid new g at count NoMemory counted quiet start due refuses = tt
count_refused old mid new g at count (Damaged recording position) counted quiet start due (of, is, damaged) = (
  of,
  λ obeys.
      let before = counted.stand (quiet.obeyed obeys) in (
        unsigned_abs at,
        is ∙ omega (arith, ints, start, counted.few, counted.some),
        record {
          reaches = record { frames = before.0; chain = before.1 };
          before = omega (arith, ints, start, due, counted.few, counted.some);
          within = omega (arith, ints);
          damaged = subst (λ (files : Files). IsDamaged (reads files) (layout_of g.descriptor) (geometry_of g.descriptor) g.recorded (unsigned_abs at)) counted.quiet.now (damaged obeys);
        },
      ),
)
count_refused old mid new g at count refusal counted quiet start due refuses = absurd refuses

-- once the recorded position is reached, all are counted
pub all_shown : (old new : Life) (g : Registration) (at count : ℤ) → IsLaid g → HasCounted old new g at count → g.recorded ≤ℤ at → IsTrue new.obeys → HasFrames (reads old.now) g count
all_shown old new g at count laid counted past obeys =
    let before = counted.stand obeys in
    let high : at ≤ℤ g.recorded = elim counted.within [ inl within ↦ within | inr same ↦ omega (arith, ints, same, laid.from_start) ] in
    let end : unsigned_abs at ≡ unsigned_abs g.recorded = omega (arith, ints, past, high) in
    record {
      frames = before.0;
      chain = subst (AreShown (reads old.now) g before.0) end before.1;
      is = before.2;
    }
