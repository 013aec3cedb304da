use Rattle.std.proofs.Common.{◌≡◌, ◌+◌, length, drop}
use Rattle.control_client.specs.Lines.{text_of, texts}
use Rattle.control_client.proofs.lines.fit.Given as goal

-- what of the text has no room yet, and the room, are what was there
abbrev pub invariant-loop-line : goal.invariant-loop-line
invariant-loop-line l = length (text_of (texts l.lines)) + l.room ≡ length (text_of (texts (drop l.line-index l.lines))) + 65536
