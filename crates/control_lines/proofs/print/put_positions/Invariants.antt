use Rattle.std.proofs.Common.{◌≡◌, ◌++◌, take}
use Rattle.std.specs.String.{string_bytes}
use Rattle.std.specs.List.{flat_map}
use Rattle.control_lines.specs.ReplyText.{position_word}
use Rattle.control_lines.proofs.print.put_positions.Given as goal

abbrev pub invariant-loop-position : goal.invariant-loop-position
invariant-loop-position l = string_bytes l.out ≡ string_bytes l.fn.out ++ flat_map position_word (take l.position-index l.positions)
