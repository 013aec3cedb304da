use Rattle.std.proofs.Common.{option_map}
use Rattle.control_client.specs.Lines.{texts}
use Rattle.control_client.proofs.AskLemmas.{HasGoneOn}
use Rattle.control_client.proofs.asking.ask.Given as goal

-- asking goes on by all that came so far
abbrev pub invariant-loop : goal.invariant-loop
invariant-loop g l = HasGoneOn (g.S.Server.answers l.server) (texts l.question.lines.now) (option_map (λ text. text.now) l.question.until)
    (g.W.Write.contents l.fn.out) (g.W.Write.contents l.out)
