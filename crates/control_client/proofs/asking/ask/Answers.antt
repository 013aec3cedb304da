-- What was asked until it ended.
use Rattle.std.proofs.Common.{option_map, rules}
use Rattle.std.proofs.lemmas.Result.{err_from_is_err_and}
use Rattle.control_client.specs.Lines.{texts}
use Rattle.control_client.proofs.AskLemmas.{asked_none, gone_more}
use Rattle.control_client.proofs.asking.ask.Goals as goal

pub returns-in_err-text-clause-early : goal.returns-in_err-text-clause-early
returns-in_err-text-clause-early g c =
    let given = err_from_is_err_and c.from_residual.result c.from_residual.ensures.1 in
    rw (given.1) (asked_none (g.S.Server.answers c.args.server.now) (texts c.args.question.now.lines.now) (option_map (λ text. text.now) c.args.question.now.until) (g.W.Write.contents c.args.out.now) _)

pub loop-preserved : goal.loop-preserved
loop-preserved g c =
    let once = rw c.in-None-2.is at c.in_ok-verdict.ensures.once in
    gone_more (g.S.Server.answers c.args.server.now) (texts c.args.question.now.lines.now) (option_map (λ text. text.now) c.args.question.now.until)
    _ (g.W.Write.contents c.args.out.now) (g.W.Write.contents c.loop.out) (g.W.Write.contents c.ask_once.new.out) (search rules) c.loop.invariant once
