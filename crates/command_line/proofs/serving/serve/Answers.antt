-- The command has its arguments, one after the other.
use Rattle.std.proofs.lemmas.Result.{IfOk-weaker}
use Rattle.command_line.proofs.CommandLineLemmas.{adds_arg}
use Rattle.command_line.proofs.serving.serve.Goals as goal

pub returns : goal.returns
returns c =
    IfOk-weaker c.arg-19.result _ _ (λ r added. adds_arg _ r _ _ _ added c.waiting.ensures.local c.waiting.ensures.rule
    (adds_arg _ _ _ _ _ c.in_ok-arg-18.ensures c.flag-7.ensures.local c.flag-7.ensures.rule
    (adds_arg _ _ _ _ _ c.in_ok-arg-17.ensures c.flag-6.ensures.local c.flag-6.ensures.rule
    (adds_arg _ _ _ _ _ c.in_ok-arg-16.ensures c.name.ensures.local c.name.ensures.rule
    (adds_arg _ _ _ _ _ c.in_ok-arg-15.ensures c.flag-5.ensures.local c.flag-5.ensures.rule
    (adds_arg _ _ _ _ _ c.in_ok-arg-14.ensures c.flag-4.ensures.local c.flag-4.ensures.rule
    (adds_arg _ _ _ _ _ c.in_ok-arg-13.ensures c.metrics.ensures.local c.metrics.ensures.rule
    (adds_arg _ _ _ _ _ c.in_ok-arg-12.ensures c.flag-3.ensures.local c.flag-3.ensures.rule
    (adds_arg _ _ _ _ _ c.in_ok-arg-11.ensures c.flag-2.ensures.local c.flag-2.ensures.rule
    (adds_arg _ _ _ _ _ c.in_ok-arg-10.ensures c.segment_length.ensures.local c.segment_length.ensures.rule
    (adds_arg _ _ _ _ _ c.in_ok-arg-9.ensures c.stream.ensures.local c.stream.ensures.rule
    (adds_arg _ _ _ _ _ c.in_ok-arg-8.ensures c.clients.ensures.local c.clients.ensures.rule
    (adds_arg _ _ _ _ _ c.in_ok-arg-7.ensures c.window.ensures.local c.window.ensures.rule
    (adds_arg _ _ _ _ _ c.in_ok-arg-6.ensures c.flag.ensures.local c.flag.ensures.rule
    (adds_arg _ _ _ _ _ c.in_ok-arg-5.ensures c.settle_every.ensures.local c.settle_every.ensures.rule
    (adds_arg _ _ _ _ _ c.in_ok-arg-4.ensures c.idle.ensures.local c.idle.ensures.rule
    (adds_arg _ _ _ _ _ c.in_ok-arg-3.ensures c.receive_on.ensures.local c.receive_on.ensures.rule
    (adds_arg _ _ _ _ _ c.in_ok-arg-2.ensures c.port-2.ensures.local c.port-2.ensures.rule
    (adds_arg _ _ _ _ _ c.in_ok-arg.ensures c.port.ensures.local c.port.ensures.rule c.in_ok-command.ensures))))))))))))))))))) c.arg-19.ensures
