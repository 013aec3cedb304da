-- What was printed when the replies ended, or a fault came.
use Rattle.std.proofs.Common.{option_map, arith}
use Rattle.std.proofs.lemmas.Result.{err_from_is_err_and}
use Rattle.control_client.specs.Lines.{texts}
use Rattle.control_client.proofs.PrintLemmas.{passed_all, passed_more, passed_some, passed_stopped}
use Rattle.control_client.proofs.printing.print_replies.Goals as goal

pub returns-in_err-print_piece-clause-early : goal.returns-in_err-print_piece-clause-early
returns-in_err-print_piece-clause-early g c =
    let given = err_from_is_err_and c.from_residual-in_err-print_piece.result c.from_residual-in_err-print_piece.ensures.1 in
    rw (given.1, given.2) (passed_stopped (texts c.args.question.now.lines.now) (option_map (λ text. text.now) c.args.question.now.until)
    (g.R.Read.remaining c.args.replies.now) (g.W.Write.contents c.args.out.now) (g.R.Read.remaining c.loop.replies) (g.R.Read.remaining c.print_piece.new.replies)
    (g.W.Write.contents c.loop.out) (g.W.Write.contents c.print_piece.new.out) c.loop.tally _ c.loop.invariant.passed c.in_err-print_piece.ensures.stopped)

pub returns-then-not-branch-clause-whole : goal.returns-then-not-branch-clause-whole
returns-then-not-branch-clause-whole g c =
    let moved = c.in_ok-print_piece.ensures.moved in
    passed_all (texts c.args.question.now.lines.now) (option_map (λ text. text.now) c.args.question.now.until)
    (g.R.Read.remaining c.args.replies.now) (g.W.Write.contents c.args.out.now) (g.R.Read.remaining c.print_piece.new.replies) (g.W.Write.contents c.print_piece.new.out)
    c.print_piece.new.tally c.answer.result
    (passed_more _ _ _ _ _ _ _ _ _ _ _ c.loop.invariant.passed moved) (moved.at_end c.if-not-branch.true)
    (λ came is. c.answer.ensures _ _ came is)

pub loop-preserved : goal.loop-preserved
loop-preserved g c = record {
  room = omega (arith, c.in_ok-print_piece.ensures.length);
  passed = passed_more _ _ _ _ _ _ _ _ _ _ _ c.loop.invariant.passed c.in_ok-print_piece.ensures.moved;
}

pub returns-clause-early : goal.returns-clause-early
returns-clause-early g c =
    passed_some (texts c.args.question.now.lines.now) (option_map (λ text. text.now) c.args.question.now.until)
    (g.R.Read.remaining c.args.replies.now) (g.W.Write.contents c.args.out.now) (g.R.Read.remaining c.loop.replies) (g.W.Write.contents c.loop.out)
    c.loop.tally c.from-2.result c.loop.invariant.passed
