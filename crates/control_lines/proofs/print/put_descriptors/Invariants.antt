use Rattle.std.proofs.Common.{◌≡◌, ◌++◌, take}
use Rattle.std.specs.String.{string_bytes}
use Rattle.std.specs.List.{flat_map}
use Rattle.control_lines.specs.ReplyText.{descriptor_line}
use Rattle.control_lines.proofs.print.put_descriptors.Given as goal

abbrev pub invariant-loop-d : goal.invariant-loop-d
invariant-loop-d l = string_bytes l.out ≡ string_bytes l.fn.out ++ flat_map descriptor_line (take l.d-index l.descriptors)
