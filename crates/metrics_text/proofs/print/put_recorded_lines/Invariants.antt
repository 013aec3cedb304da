use Rattle.std.proofs.Common.{◌≡◌, ◌++◌, take}
use Rattle.std.specs.String.{string_bytes}
use Rattle.std.specs.List.{flat_map}
use Rattle.metrics_text.specs.MetricsText.{recorded_line}
use Rattle.metrics_text.proofs.print.put_recorded_lines.Given as goal

abbrev pub invariant-loop-recording : goal.invariant-loop-recording
invariant-loop-recording l = string_bytes l.out ≡ string_bytes l.fn.out ++ flat_map (recorded_line l.who) (take l.recording-index l.recordings)
