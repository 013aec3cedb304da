-- Consumed positions are multiples of 32.
use Rattle.std.proofs.Common.{◌≡◌, ◌∙◌, ap, ◌+◌, ◌-◌, ◌*◌, ◌/◌, ◌^◌, ◌≤◌, ◌≤ℤ◌, ◌+ℤ◌, ◌*ℤ◌, ℕ, ℤ, pos, negsuc, List, [], ◌∷◌, true, Some, None, arith}
use Rattle.std.specs.Prelude.{Option, min, unsigned_abs}
use Rattle.std.proofs.lemmas.Int.{ints}
use Rattle.std.proofs.lemmas.Nat.{pow-add}
use Rattle.frame_core.specs.declared.block.Block.{Block}
use Rattle.frame_core.specs.declared.frame.Frame.{Frame}
use Rattle.frame_core.specs.declared.setup.Setup.{Setup}
use Rattle.frame_core.specs.declared.status.StatusMessage.{StatusMessage}
use Rattle.frame_core.specs.FrameEncoding.{IsAligned}
use Rattle.frame_core.specs.Limits.{is_term_length}
use Rattle.frame_core.specs.Status.{MayStand}
use Rattle.frame_core.proofs.LimitsLemmas.{is_power}
use Rattle.image_core.specs.declared.inserted.Inserted.{Inserted}
use Rattle.image_core.specs.Insert.{TakesIn}
use Rattle.image_core.specs.Rebuild.{end_of}
use Rattle.image_core.specs.Received.{IsBegun, IsChain, Received}
use Rattle.image_core.specs.Stock.{Offers}
use Rattle.image_core.specs.Take.{GivesBlock}
use Rattle.flow_control.specs.Feedback.{IsStatusOf, told_position}
use Rattle.flow_control.specs.Progress.{IsAlignedImage}
use Rattle.flow_control.proofs.ProgressLemmas.{keeps_consumed}

-- whole terms of a multiple of 32 bytes, and an offset that is one
sum_aligned : (terms offset size : ℤ) (p : ℕ) → pos 0 ≤ℤ terms → pos p ≡ terms *ℤ size +ℤ offset → IsAligned size → IsAligned offset → IsAligned (pos p)
sum_aligned (negsuc t) offset size p low sum by over = absurd (omega (arith, ints, low))
sum_aligned (pos t) offset size p low sum by over =
    let is = rw (by.1, over.1) at sum in (t * by.0 + over.0, ap pos (omega (arith, ints, is)))

rest_aligned : (terms offset size : ℤ) (p : ℕ) → pos 0 ≤ℤ terms → pos 0 ≤ℤ offset → pos p ≡ terms *ℤ size +ℤ offset → IsAligned size → IsAligned (pos p) → IsAligned offset
rest_aligned (negsuc t) offset size p low above sum by whole = absurd (omega (arith, ints, low))
rest_aligned (pos t) (negsuc o) size p low above sum by whole = absurd (omega (arith, ints, above))
rest_aligned (pos t) (pos o) size p low above sum by whole =
    let is = rw by.1 at sum in (whole.0 - t * by.0, ap pos (omega (arith, ints, is, whole.1)))

-- a power of two from 2^5 on is a multiple of 32
power_aligned : (k : ℕ) (z : ℤ) → 5 ≤ k → z ≡ pos (2 ^ k) → IsAligned z
power_aligned k z low is =
    let split : 2 ^ (5 + (k - 5)) ≡ 2 ^ 5 * 2 ^ (k - 5) = pow-add 2 5 (k - 5) in
    let same : 5 + (k - 5) ≡ k = omega arith in
    let whole = rw same at split in (2 ^ (k - 5), is ∙ ap pos whole)

term_aligned : (z : ℤ) → is_term_length z ≡ true → IsAligned z
term_aligned z is = let found = is_power z is in power_aligned found.0 z (omega (arith, found.1)) found.3

pub begun : (s : Setup) (r : Received) → IsBegun s r → IsAlignedImage r
begun s r is =
    let terms = term_aligned s.term_length is.joins.term_length in
    let at = is.joins.joins in
    rw is.begins (record { consumed = sum_aligned _ s.term_offset s.term_length is.position at.since at.sum terms is.joins.offset; terms = terms })

pub taken_in : (old new : Received) (fs : List Frame) (i : Inserted) → TakesIn old fs i new → IsAlignedImage old → IsAlignedImage new
taken_in old new fs i takes is =
    let keeps = keeps_consumed old fs in
    rw takes.after (record { consumed = rw keeps.from is.consumed; terms = rw keeps.geometry is.terms })

pub offered : (old new : Received) (fs : List Frame) (found : Option Inserted) → Offers old fs found new → IsAlignedImage old → IsAlignedImage new
offered old new fs None lost is = rw lost.1 is
offered old new fs (Some i) takes is = taken_in old new fs i takes.1 is

-- a chain of frames ends at a multiple of 32 if it begins at one
chain_aligned : (p q : ℕ) (ms : List (ℕ × Frame)) → IsChain p ms q → IsAligned (pos p) → IsAligned (pos q)
chain_aligned p q [] chain is = rw (← chain) is
chain_aligned p q (m ∷ ms) chain is =
    chain_aligned (end_of m) q ms chain.2 (let begins = chain.0 in let at = is.1 in (is.0 + (unsigned_abs m.1.length + 31) / 32, ap pos (omega (arith, ints, at))))

pub given : (old new : Received) (b : Block) → GivesBlock old b new → IsAlignedImage old → IsAlignedImage new
given old new b gives is = record {
  consumed = chain_aligned old.from new.from gives.takes.taken gives.takes.chain is.consumed;
  terms = rw (ap (λ (r : Received). r.geometry) gives.same) is.terms;
}

-- what a status message names of such an image is a multiple of 32
pub told_aligned : (r : Received) (bound : Option ℕ) → IsAlignedImage r → IsAligned (pos (told_position r bound))
told_aligned r None is = is.consumed
told_aligned r (Some bound) is =
    let at = is.consumed.1 in (min is.consumed.0 (bound / 32), ap pos (omega (arith, ints, at)))

-- a status message of such an image is one that may stand
pub stands : (r : Received) (bound : Option ℕ) (bytes receiver : ℤ) (s : StatusMessage) → IsStatusOf r bound bytes receiver s → pos 0 ≤ℤ bytes → IsAlignedImage r → MayStand s
stands r bound bytes receiver s is least aligned =
    let at = is.told in
    record {
      offset = rest_aligned _ s.consumption_term_offset r.geometry.term_length (told_position r bound) at.since at.low at.sum aligned.terms (told_aligned r bound aligned);
      window = rw is.window least;
    }
