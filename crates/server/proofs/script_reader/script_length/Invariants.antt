use Rattle.std.proofs.Common.{◌≡◌, ◌+◌, drop}
use Rattle.server.specs.OwnLines.{script_length}
use Rattle.server.proofs.script_reader.script_length.Given as goal

abbrev pub invariant-loop-at : goal.invariant-loop-at
invariant-loop-at l = l.at + script_length l.own l.has_ended l.begins_line (drop l.at l.bytes) ≡ script_length l.own l.has_ended l.fn.begins_line l.bytes
