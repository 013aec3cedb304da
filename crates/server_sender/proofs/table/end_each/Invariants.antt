use Rattle.std.proofs.Common.{◌≡◌, ◌++◌, take, drop}
use Rattle.std.specs.Prelude.{map}
use Rattle.server_sender.specs.Table.{ended_as}
use Rattle.server_sender.proofs.table.end_each.Given as goal

abbrev pub invariant-loop-sending : goal.invariant-loop-sending
invariant-loop-sending l = l.sending-items ≡ map (ended_as l.number l.state) (take l.sending-index l.fn.sends.items) ++ drop l.sending-index l.fn.sends.items
