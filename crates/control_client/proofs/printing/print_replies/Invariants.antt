use Rattle.std.proofs.Common.{◌<◌, length, option_map}
use Rattle.control_client.specs.Lines.{texts}
use Rattle.control_client.proofs.PrintLemmas.{HasPassed}
use Rattle.control_client.proofs.printing.print_replies.Given as goal

-- what came so far was printed, and is kept
abbrev pub invariant-loop : goal.invariant-loop
invariant-loop g l = record {
  room : 0 < length l.piece.items;
  passed : HasPassed (texts l.question.lines.now) (option_map (λ text. text.now) l.question.until)
      (g.R.Read.remaining l.fn.replies) (g.R.Read.remaining l.replies) (g.W.Write.contents l.fn.out) (g.W.Write.contents l.out) l.tally;
}
