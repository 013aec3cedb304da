use Rattle.std.proofs.Common.{◌≡◌, ◌++◌, take}
use Rattle.std.specs.String.{string_bytes}
use Rattle.std.specs.List.{flat_map}
use Rattle.server_sender.specs.Texts.{send_line}
use Rattle.server_sender.proofs.table_text.put_sends.Given as goal

abbrev pub invariant-loop-sending : goal.invariant-loop-sending
invariant-loop-sending l = string_bytes l.out ≡ string_bytes l.fn.out ++ flat_map send_line (take l.sending-index l.sends)
