-- The command has three arguments more.
use Rattle.std.proofs.lemmas.Result.{IfOk-weaker}
use Rattle.command_line.proofs.CommandLineLemmas.{adds_arg}
use Rattle.command_line.proofs.serving.serve_consumers.Goals as goal

pub returns : goal.returns
returns c =
    IfOk-weaker c.arg-3.result _ _ (λ r added. adds_arg _ r _ _ _ added c.from.ensures.local c.from.ensures.rule
    (adds_arg _ _ _ _ _ c.in_ok-arg-2.ensures c.consumers_on.ensures.local c.consumers_on.ensures.rule
    (adds_arg _ _ _ _ _ c.in_ok-arg.ensures c.consumers.ensures.local c.consumers.ensures.rule c.in_ok-command.ensures))) c.arg-3.ensures
