-- Runs of messages, and what they cover.
use Rattle.std.proofs.Common.{◌≡◌, ◌∙◌, sym, ap, refl, ◌+◌, ◌<◌, ◌≤◌, ◌^◌, ◌-◌, subst, length, take, drop, get_or, ℕ, ℤ, List, [], ◌∷◌, arith}
use Rattle.std.specs.Prelude.{None, true, false, map}
use Rattle.std.proofs.Math.Seq.{take-length}
use Rattle.frame_core.specs.declared.frame.Frame.{Frame}
use Rattle.frame_core.specs.declared.geometry.Geometry.{Geometry}
use Rattle.frame_core.specs.declared.block.Publication.{Publication}
use Rattle.frame_core.specs.declared.block.BlockIds.{BlockIds}
use Rattle.frame_core.specs.FrameEncoding.{aligned_length}
use Rattle.frame_core.specs.Block.{run_end, covered, is_part, AreBlock, AreBlockOf, publication_of}

-- a run from a start goes on from an offset with the rest of its frames
pub record RunsOn (p : BlockIds) (start : ℕ) (frames : List Frame) (offset : ℕ) (rest : List Frame) : Type 0 where
  pub after : start ≤ offset
  pub small : offset < 2 ^ 34
  pub end : run_end p start frames ≡ run_end p offset rest
  pub covers : start + covered frames ≡ offset + covered rest

-- one frame further
pub runs_on_more : (p : BlockIds) (start offset : ℕ) (frames rest others : List Frame) (f : Frame) → RunsOn p start frames offset rest → rest ≡ f ∷ others
    → is_part p offset f ≡ true → offset < 2 ^ 31 → aligned_length f < 2 ^ 33 → RunsOn p start frames (offset + aligned_length f) others
runs_on_more p start offset frames rest others f run next part low small = record {
  after = omega (arith, run.after);
  small = omega arith;
  end = run.end ∙ rw (next, part) refl;
  covers = let e : covered rest ≡ aligned_length f + covered others = rw next refl in omega (arith, run.covers, e);
}

-- a frame that is no part ends it
pub runs_no_more : (p : BlockIds) (start offset : ℕ) (frames rest others : List Frame) (f : Frame) → RunsOn p start frames offset rest → rest ≡ f ∷ others
    → is_part p offset f ≡ false → run_end p start frames ≡ None
runs_no_more p start offset frames rest others f run next part = run.end ∙ rw (next, part) refl

-- the first of some frames, owned or lent, and the rest
pub first_rest : {X : Type 0} (frame : X → Frame) (xs : List X) (x other : X) → 1 ≤ length xs → x ≡ get_or xs 0 other
    → map frame xs ≡ frame x ∷ map frame (take (length xs - 1) (drop 1 xs))
first_rest frame [] x other some is = absurd (omega arith)
first_rest frame (y ∷ ys) x other some is =
    let rest : length (y ∷ ys) - 1 ≡ length ys = omega arith in
    let all : take (length (y ∷ ys) - 1) ys ≡ ys = ap (λ n. take n ys) rest ∙ take-length ys in
    ap (λ z. frame z ∷ map frame ys) (sym is) ∙ ap (λ others. frame x ∷ map frame others) (sym all)

-- a block of some publication is one of its first frame's
pub block_of_first : (g : Geometry) (publication : Publication) (frames rest : List Frame) (f : Frame) (position : ℤ) → frames ≡ f ∷ rest
    → publication ≡ publication_of f → AreBlock g frames position → AreBlockOf g publication frames position
block_of_first g publication frames rest f position is its block =
    let parts : AreBlock g (f ∷ rest) position = subst (λ (fs : List Frame). AreBlock g fs position) is block in rw (its, is) parts

-- frames are a block at one position
pub one_start : (g : Geometry) (fs : List Frame) (p q : ℤ) → AreBlock g fs p → AreBlock g fs q → p ≡ q
one_start g [] p q here there = absurd here
one_start g (f ∷ fs) p q here there = here.0.sum ∙ sym there.0.sum
