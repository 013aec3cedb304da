use Rattle.std.proofs.Common.{arith}
use Rattle.control_lines.proofs.DigitLemmas.{all_read}
use Rattle.control_lines.proofs.hex_digits.decode_over.Goals as goal

pub returns : goal.returns
returns c = all_read _ _ _ _ (omega arith) (omega arith) c.read_last.ensures.read
