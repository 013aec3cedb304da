use Rattle.std.proofs.Common.{◌≡◌, ◌+◌, ◌*◌, ap, arith, slice_index, ◌∙◌}
use Rattle.std.proofs.lemmas.Bool.Decides.{nat_tests}
use Rattle.control_lines.proofs.DigitLemmas.{digit, read_step}
use Rattle.control_lines.proofs.hex_digits.read_pairs.Goals as goal

pub loop-k-preserved : goal.loop-k-preserved
loop-k-preserved c =
    let text = c.args.text.now in
    let from = c.args.from in
    let k = c.loop-k.k in
    let even : 2 * from + 2 * k ≡ 2 * (from + k) = omega arith in
    let odd : 2 * from + 2 * k + 1 ≡ 2 * (from + k) + 1 = omega arith in
    let next : from + (k + 1) ≡ from + k + 1 = omega arith in
    let pairs = c.digits_of_pairs.ensures in
    rw next
    (read_step text c.loop-k.out (from + k) c.loop-k.worst _ _ _ (omega arith) (omega arith)
    (c.digit-high.ensures ∙ ap digit (pairs.first k (omega arith) ∙ ap (slice_index text) even))
    (c.digit-low.ensures ∙ ap digit (pairs.second k (omega arith) ∙ ap (slice_index text) odd))
    (grind (arith, nat_tests, c.max-worst.ensures, c.max.ensures)) c.loop-k.invariant)
