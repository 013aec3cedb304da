use Rattle.std.proofs.Common.{◌≡◌, arith, length}
use Rattle.std.proofs.lemmas.Bool.Decides.{nat_tests}
use Rattle.control_lines.proofs.DigitLemmas.{read_step}
use Rattle.control_lines.proofs.hex_digits.read_last.Goals as goal

pub loop-i-preserved : goal.loop-i-preserved
loop-i-preserved c =
    read_step _ c.loop-i.out c.loop-i.i c.loop-i.worst _ _ _ (omega arith) (omega arith) c.digit-high.ensures c.digit-low.ensures
    (grind (arith, nat_tests, c.max-worst.ensures, c.max.ensures)) c.loop-i.invariant

pub returns-clause-read : goal.returns-clause-read
returns-clause-read c = let e : length c.loop-i.out ≡ c.loop-i.i = omega arith in rw e c.loop-i.invariant
