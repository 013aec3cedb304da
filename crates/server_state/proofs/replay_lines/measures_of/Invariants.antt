use Rattle.std.proofs.Common.{◌≡◌, take}
use Rattle.server_state.specs.ReplaysOpen.{measures_of}
use Rattle.server_state.proofs.replay_lines.measures_of.Given as goal

abbrev pub invariant-loop-replay : goal.invariant-loop-replay
invariant-loop-replay l = l.measures.items ≡ measures_of (take l.replay-index l.replays)
