-- What is noted begins at the start, and ends at a later multiple of 32.
use Rattle.std.proofs.Common.{rules, ◌≡◌, ◌%◌, ◌/◌, ◌*◌, ◌<ℤ◌, ℕ, ℤ, pos, negsuc, FitsSigned, of_z, w64, ap, arith}
use Rattle.std.proofs.lemmas.Int.{ints, to_z-of_z}
use Rattle.std.specs.Prelude.{int_rem}
use Rattle.frame_core.specs.FrameEncoding.{IsAligned}
use Rattle.tests_control.proofs.desk_calls.note.Goals as goal

aligned_of : (z : ℤ) → pos 0 <ℤ z → of_z w64 (int_rem z (pos 32)) ≡ 0 → IsAligned z
aligned_of (pos n) some none = let whole : n % 32 ≡ 0 = none in (n / 32, ap pos (omega (arith, whole)))
aligned_of (negsuc n) some none = absurd (omega (arith, ints, some))

pub note_written-requires-clause-behind : goal.note_written-requires-clause-behind
note_written-requires-clause-behind c =
    let fits : FitsSigned w64 c.args.last = search rules in
    let none : of_z w64 (int_rem c.args.last (pos 32)) ≡ 0 = rw (to_z-of_z w64 c.args.last fits) at c.if-last-ne0.false in
    let some : pos 0 <ℤ c.args.last = search rules in
    let aligned : IsAligned c.args.last = aligned_of c.args.last some none in
    search (rules, aligned)
