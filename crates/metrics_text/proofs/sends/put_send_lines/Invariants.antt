use Rattle.std.proofs.Common.{◌≡◌, ◌++◌, take}
use Rattle.std.specs.String.{string_bytes}
use Rattle.std.specs.List.{flat_map}
use Rattle.metrics_text.specs.MetricsText.{send_metric_line}
use Rattle.metrics_text.proofs.sends.put_send_lines.Given as goal

abbrev pub invariant-loop-send : goal.invariant-loop-send
invariant-loop-send l = string_bytes l.out ≡ string_bytes l.fn.out ++ flat_map (send_metric_line l.who l.family) (take l.send-index l.sends)
