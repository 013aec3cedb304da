use Rattle.std.proofs.Common.{◌≡◌, ◌++◌, drop}
use Rattle.control_client.specs.Lines.{text_of, texts}
use Rattle.control_client.proofs.lines.text_of.Given as goal

-- the text so far and that of the lines to come
abbrev pub invariant-loop-line : goal.invariant-loop-line
invariant-loop-line l = l.text.items ++ text_of (texts (drop l.line-index l.lines)) ≡ text_of (texts l.lines)
