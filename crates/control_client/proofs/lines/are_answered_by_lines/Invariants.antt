use Rattle.std.proofs.Common.{take}
use Rattle.std.specs.List.{All}
use Rattle.control_client.specs.Lines.{IsAnsweredByLines, texts}
use Rattle.control_client.proofs.lines.are_answered_by_lines.Given as goal

abbrev pub invariant-loop-line : goal.invariant-loop-line
invariant-loop-line l = All IsAnsweredByLines (texts (take l.line-index l.lines))
