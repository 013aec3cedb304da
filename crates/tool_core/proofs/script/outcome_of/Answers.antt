-- The line that quits is answered without being read.
use Rattle.std.proofs.Common.{◌≡◌, true, rules}
use Rattle.tool_core.specs.Answering.{quits}
use Rattle.tool_core.proofs.QuitLemmas.{quits_answered}
use Rattle.tool_core.proofs.script.outcome_of.Goals as goal

pub returns-then-eq-clause-answer : goal.returns-then-eq-clause-answer
returns-then-eq-clause-answer g c =
    let quit : quits c.args.line.now ≡ true = search rules in
    quits_answered g.A.Answerer.ways (g.A.Answerer.checkpoints.offers c.args.state.archive) c.args.line.now c.args.state quit
