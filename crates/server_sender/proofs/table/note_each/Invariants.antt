use Rattle.std.proofs.Common.{◌≡◌, ◌++◌, take, drop}
use Rattle.std.specs.Prelude.{map}
use Rattle.server_sender.specs.Table.{noted_progress}
use Rattle.server_sender.proofs.table.note_each.Given as goal

abbrev pub invariant-loop-sending : goal.invariant-loop-sending
invariant-loop-sending l = l.sending-items ≡ map (noted_progress l.number l.progress) (take l.sending-index l.fn.sends.items) ++ drop l.sending-index l.fn.sends.items
