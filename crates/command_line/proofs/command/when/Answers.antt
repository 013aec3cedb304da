-- The command has its arguments, one after the other.
use Rattle.std.proofs.lemmas.Result.{IfOk-weaker}
use Rattle.command_line.proofs.CommandLineLemmas.{adds_arg}
use Rattle.command_line.proofs.command.when.Goals as goal

pub returns : goal.returns
returns c =
    IfOk-weaker c.arg-2.result _ _ (λ r added. adds_arg _ r _ _ _ added c.required.ensures.local c.required.ensures.rule
    (adds_arg _ _ _ _ _ c.in_ok-arg.ensures c.recording.ensures.local c.recording.ensures.rule c.in_ok-command.ensures)) c.arg-2.ensures
