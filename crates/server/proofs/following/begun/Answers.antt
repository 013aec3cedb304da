-- The pass of what is opened is the one that asked for the descriptor.
use Rattle.std.proofs.Common.{◌∙◌}
use Rattle.std.proofs.lemmas.Result.{IfErr-weaker, IfOk-weaker}
use Rattle.server.proofs.following.begun.Goals as goal

pub returns-in-Ok-clause-begun : goal.returns-in-Ok-clause-begun
returns-in-Ok-clause-begun g c = IfOk-weaker c.begun_of.result _ _ (λ followed back. record {
  table = back.table ∙ c.described-found.ensures.pass.0;
  number = back.number ∙ c.described-found.ensures.pass.1;
}) c.begun_of.ensures.begun

pub returns-in-Ok-clause-back : goal.returns-in-Ok-clause-back
returns-in-Ok-clause-back g c = IfErr-weaker c.begun_of.result _ _ (λ un back. record {
  table = back.table ∙ c.described-found.ensures.pass.0;
  number = back.number ∙ c.described-found.ensures.pass.1;
}) c.begun_of.ensures.back
