use Rattle.std.proofs.Common.{◌≡◌, ◌++◌, take}
use Rattle.std.specs.String.{string_bytes}
use Rattle.std.specs.List.{flat_map}
use Rattle.metrics_text.specs.MetricsText.{replay_line}
use Rattle.metrics_text.proofs.print.put_replay_lines.Given as goal

abbrev pub invariant-loop-replay : goal.invariant-loop-replay
invariant-loop-replay l = string_bytes l.out ≡ string_bytes l.fn.out ++ flat_map (replay_line l.who) (take l.replay-index l.replays)
