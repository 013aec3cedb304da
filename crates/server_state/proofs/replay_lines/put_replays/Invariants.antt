use Rattle.std.proofs.Common.{◌≡◌, ◌++◌, take}
use Rattle.std.specs.String.{string_bytes}
use Rattle.std.specs.List.{flat_map}
use Rattle.server_state.specs.ReplaysOpen.{open_line}
use Rattle.server_state.proofs.replay_lines.put_replays.Given as goal

abbrev pub invariant-loop-replay : goal.invariant-loop-replay
invariant-loop-replay l = string_bytes l.out ≡ string_bytes l.fn.out ++ flat_map open_line (take l.replay-index l.replays)
