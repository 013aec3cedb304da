use Rattle.std.proofs.Common.{take}
use Rattle.std.specs.List.{All}
use Rattle.control_client.specs.Lines.{HasNoEnd, texts}
use Rattle.control_client.proofs.lines.are_lines.Given as goal

abbrev pub invariant-loop-line : goal.invariant-loop-line
invariant-loop-line l = All HasNoEnd (texts (take l.line-index l.lines))
