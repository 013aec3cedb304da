use Rattle.std.proofs.Common.{◌≡◌, take}
use Rattle.server_state.specs.ReplaysOpen.{replays_held}
use Rattle.server_state.proofs.replay_lines.replays_held.Given as goal

abbrev pub invariant-loop-replay : goal.invariant-loop-replay
invariant-loop-replay l = l.held.items ≡ replays_held l.recording (take l.replay-index l.replays)
