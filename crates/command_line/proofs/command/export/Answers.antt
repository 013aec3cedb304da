-- The command has its arguments, one after the other.
use Rattle.std.proofs.lemmas.Result.{IfOk-weaker}
use Rattle.command_line.proofs.CommandLineLemmas.{adds_arg}
use Rattle.command_line.proofs.command.export.Goals as goal

pub returns : goal.returns
returns c =
    IfOk-weaker c.arg-4.result _ _ (λ r added. adds_arg _ r _ _ _ added c.pcap.ensures.local c.pcap.ensures.rule
    (adds_arg _ _ _ _ _ c.in_ok-arg-3.ensures c.position-2.ensures.local c.position-2.ensures.rule
    (adds_arg _ _ _ _ _ c.in_ok-arg-2.ensures c.position.ensures.local c.position.ensures.rule
    (adds_arg _ _ _ _ _ c.in_ok-arg.ensures c.recording.ensures.local c.recording.ensures.rule c.in_ok-command.ensures)))) c.arg-4.ensures
