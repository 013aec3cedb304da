use Rattle.std.proofs.Common.{rules, ◌≡◌, ◌∙◌, ◌+◌, ◌+ℤ◌, ◌≤ℤ◌, pos, FitsSigned, ℤ, to_z, of_z, List, ℕ, subst, w64, arith}
use Rattle.std.proofs.lemmas.Int.{ints, to_z-of_z, fits_signed_from_abs}
use Rattle.std.specs.Io.KnownBytes.{Appends}
use Rattle.std.specs.Prelude.{unsigned_abs}
use Rattle.frame_core.specs.FrameEncoding.{aligned_length}
use Rattle.archive_export.proofs.frames.export_frame.Goals as goal

-- a position and a length behind it, up to a third position
summed : (at recorded : ℤ) (size : ℕ) → pos 0 ≤ℤ at → pos (unsigned_abs at + size) ≤ℤ recorded → FitsSigned w64 recorded → FitsSigned w64 (at +ℤ pos size)
summed at recorded size low ends fits = fits_signed_from_abs w64 (at +ℤ pos size) (omega (arith, ints, low, ends, fits.sfits))

forward : (at : ℤ) (size : ℕ) → pos 0 ≤ℤ at → (at +ℤ pos size) ≡ pos (unsigned_abs at + size)
forward at size low = omega (arith, ints, low)

pub overflow_add-result : goal.overflow_add-result
overflow_add-result g c =
    let there = c.requires.there in
    let taken = c.in_ok-frame.ensures.taken there.0 there.1 in
    let recorded : FitsSigned w64 c.args.target.recorded = search rules in
    let here : to_z w64 (of_z w64 c.args.at.now) ≡ c.args.at.now = search rules in
    let size : to_z w64 c.aligned_length.result ≡ pos (aligned_length c.in_ok-frame.frame) = search rules in
    rw (here, size) (summed c.args.at.now c.args.target.recorded (aligned_length c.in_ok-frame.frame) taken.low (omega (arith, ints, taken.ends, there.1.recorded_is)) recorded)

pub returns-clause-written : goal.returns-clause-written
returns-clause-written g c known there =
    let taken = c.in_ok-frame.ensures.taken known there in
    let recorded : FitsSigned w64 c.args.target.recorded = search rules in
    let here : to_z w64 (of_z w64 c.args.at.now) ≡ c.args.at.now = search rules in
    let size : to_z w64 c.aligned_length.result ≡ pos (aligned_length c.in_ok-frame.frame) = search rules in
    let fits = summed c.args.at.now c.args.target.recorded (aligned_length c.in_ok-frame.frame) taken.low (omega (arith, ints, taken.ends, there.recorded_is)) recorded in
    record {
      frame = c.in_ok-frame.frame;
      taken = taken;
      end_is = rw (here, size) (to_z-of_z w64 _ fits ∙ forward c.args.at.now (aligned_length c.in_ok-frame.frame) taken.low);
      told = subst (λ (bytes : List ℕ). Appends (g.W.Write.contents c.args.writer.now) (g.W.Write.contents c.write.new.writer) bytes) (c.as_slice.ensures.value ∙ c.in_ok-record.ensures) c.in_ok-write.ensures.ok;
    }
