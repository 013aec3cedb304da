use Rattle.std.proofs.Common.{◌≡◌, ◌*◌, ◌-◌, ◌≤◌, length}
use Rattle.control_lines.specs.HexDigits.{IsReadTo}
use Rattle.control_lines.proofs.hex_digits.decode_over.Given as goal

abbrev pub invariant-loop-out : goal.invariant-loop-out
invariant-loop-out l = record {
  read : IsReadTo l.text l.out l.from l.worst;
  within : l.from ≤ length l.out;
  long : length l.text ≡ 2 * length l.out;
}

abbrev pub decreases-loop-out : goal.decreases-loop-out
decreases-loop-out l = length l.out - l.from
