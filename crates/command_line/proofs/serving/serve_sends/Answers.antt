-- The command has two arguments more.
use Rattle.std.proofs.lemmas.Result.{IfOk-weaker}
use Rattle.command_line.proofs.CommandLineLemmas.{adds_arg}
use Rattle.command_line.proofs.serving.serve_sends.Goals as goal

pub returns : goal.returns
returns c =
    IfOk-weaker c.arg-2.result _ _ (λ r added. adds_arg _ r _ _ _ added c.send_on.ensures.local c.send_on.ensures.rule
    (adds_arg _ _ _ _ _ c.in_ok-arg.ensures c.send_to.ensures.local c.send_to.ensures.rule c.in_ok-command.ensures)) c.arg-2.ensures
