-- Frames with where each begins.
use Rattle.std.proofs.Common.{◌≡◌, ◌∙◌, subst, ℕ, ℤ, pos, ◌+◌, ◌+ℤ◌, List, [], ◌∷◌, arith}
use Rattle.std.proofs.lemmas.Int.{ints}
use Rattle.frame_core.specs.declared.frame.Frame.{Frame}
use Rattle.frame_core.specs.Block.{covered}
use Rattle.frame_core.specs.FrameEncoding.{aligned_length}
use Rattle.archive_model.specs.Replay.{placed}
use Rattle.control_core.specs.Exact.{frames_end}
use Rattle.replay_core.specs.Poll.{BeginBefore}
use Rattle.replay_core.specs.Taking.{StepsThrough, TookSome}
use Rattle.recording_reads.specs.Handing.{BeginBy, TakesEach, TakesSome}

-- placed frames end where the last of them does
pub placed_end : (at : ℤ) (fs : List Frame) → frames_end at (placed at fs) ≡ at +ℤ pos (covered fs)
placed_end at [] = omega (arith, ints)
placed_end at (f ∷ fs) = placed_end (at +ℤ pos (aligned_length f)) fs ∙ omega (arith, ints)

-- frames that begin before a bound do so where each is placed
pub each_before : (bound : ℤ) (from : ℕ) (fs : List Frame) → BeginBefore bound from fs → BeginBy bound (placed (pos from) fs)
each_before bound from [] begin = tt
each_before bound from (f ∷ fs) begin =
    let on : pos (from + aligned_length f) ≡ pos from +ℤ pos (aligned_length f) = omega (arith, ints) in
    (begin.0, subst (λ (z : ℤ). BeginBy bound (placed z fs)) on (each_before bound (from + aligned_length f) fs begin.1))

module _ {T : Type 0} (takes : T → ℤ → Frame → T → Type 0) where
  -- frames that were taken as they follow one another were taken, each with where it begins
  pub each_placed : (frames : List Frame) (at : ℤ) (old new : T) → StepsThrough takes old at frames new → TakesEach takes old (placed at frames) new
  each_placed [] at old new is = is
  each_placed (f ∷ fs) at old new (mid, took, rest) = (mid, took, each_placed fs (at +ℤ pos (aligned_length f)) mid new rest)

  -- and so some of them
  pub some_placed : (leaves : T → T → Type 0) (old new : T) (at : ℤ) → TookSome takes leaves old new at → TakesSome takes leaves old new
  some_placed leaves old new at some = record {
    frames = placed at some.frames;
    last = some.last;
    taken = each_placed some.frames at old some.last some.taken;
    left = some.left;
  }
