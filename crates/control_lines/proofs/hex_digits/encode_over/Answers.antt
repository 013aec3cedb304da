-- The digits of one byte after another.
use Rattle.std.proofs.Common.{◌∙◌, ℕ, arith, slice_index, ap}
use Rattle.std.proofs.lemmas.Nat.{and_mask}
use Rattle.hex.specs.Hex.{lower_digits}
use Rattle.hex.proofs.Pairs.{encode_step, encode_done}
use Rattle.control_lines.proofs.hex_digits.encode_over.Goals as goal

pub loop-i-preserved : goal.loop-i-preserved
loop-i-preserved c =
    let byte : ℕ = slice_index c.args.bytes.now c.loop-i.i in
    encode_step lower_digits c.args.bytes.now c.loop-i.out c.loop-i.i _ _ (omega arith) (omega arith) c.lower_digit-high.ensures
    (c.lower_digit-low.ensures ∙ ap (λ (k : ℕ). slice_index lower_digits k) (and_mask byte 4)) c.loop-i.invariant

pub returns : goal.returns
returns c = encode_done _ _ _ c.loop-i.i (omega arith) (omega arith) c.loop-i.invariant
