use Rattle.std.proofs.Common.{◌≡◌, take}
use Rattle.server_state.specs.Sends.{measured_sends}
use Rattle.server_state.proofs.open_sends.measures_of.Given as goal

abbrev pub invariant-loop-send : goal.invariant-loop-send
invariant-loop-send l = l.measures.items ≡ measured_sends (take l.send-index l.sends)
