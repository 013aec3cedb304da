use Rattle.std.proofs.Common.{◌≡◌, ◌+◌, ◌*◌, ap, arith, slice_index, ◌∙◌}
use Rattle.control_lines.proofs.PairLemmas.{pair_at}
use Rattle.control_lines.proofs.hex_digits.digits_of_pairs.Goals as goal

pub returns-clause-first : goal.returns-clause-first
returns-clause-first c = λ k within.
    let e : c.args.from + (0 + 2 * k) ≡ c.args.from + 2 * k = omega arith in
    pair_at c.args.text.now c.args.from 0 k c.requires (omega arith) within ∙ ap (slice_index c.args.text.now) e

pub returns-clause-second : goal.returns-clause-second
returns-clause-second c = λ k within.
    let e : c.args.from + (1 + 2 * k) ≡ c.args.from + 2 * k + 1 = omega arith in
    pair_at c.args.text.now c.args.from 1 k c.requires (omega arith) within ∙ ap (slice_index c.args.text.now) e
