use Rattle.std.proofs.Common.{◌+◌}
use Rattle.control_lines.specs.HexDigits.{IsReadTo}
use Rattle.control_lines.proofs.hex_digits.read_pairs.Given as goal

abbrev pub invariant-loop-k : goal.invariant-loop-k
invariant-loop-k l = IsReadTo l.text l.out (l.from + l.k) l.worst
