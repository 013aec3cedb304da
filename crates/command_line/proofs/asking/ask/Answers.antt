-- The command has its arguments, one after the other.
use Rattle.std.proofs.lemmas.Result.{IfOk-weaker}
use Rattle.command_line.proofs.CommandLineLemmas.{adds_arg}
use Rattle.command_line.proofs.asking.ask.Goals as goal

pub returns : goal.returns
returns c =
    IfOk-weaker c.arg-3.result _ _ (λ r added. adds_arg _ r _ _ _ added c.wait.ensures.local c.wait.ensures.rule
    (adds_arg _ _ _ _ _ c.in_ok-arg-2.ensures c.until.ensures.local c.until.ensures.rule
    (adds_arg _ _ _ _ _ c.in_ok-arg.ensures c.lines.ensures.local c.lines.ensures.rule c.in_ok-command.ensures))) c.arg-3.ensures
