use Rattle.control_lines.specs.HexDigits.{IsReadTo}
use Rattle.control_lines.proofs.hex_digits.read_last.Given as goal

abbrev pub invariant-loop-i : goal.invariant-loop-i
invariant-loop-i l = IsReadTo l.text l.out l.i l.worst
