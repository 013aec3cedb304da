-- What is written answers the line.
use Rattle.tool_core.proofs.AnsweringLemmas.{replied}
use Rattle.tool_core.proofs.script.answer_line.Goals as goal

pub returns-clause-replied : goal.returns-clause-replied
returns-clause-replied g c = replied g.A.Answerer.ways g.A.Answerer.checkpoints _ _ _ c.args.state c.prepared-state.result c.outcome_of-state.result.0 c.outcome_of-state.result.1 c.write_outcome.result c.prepared-state.ensures c.outcome_of-state.ensures.answer c.write_outcome.ensures.ok c.write_outcome.ensures.err
