use Rattle.std.proofs.Common.{take}
use Rattle.control_client.specs.Tally.{Follows}
use Rattle.control_client.proofs.tally.Tally.take.Given as goal

abbrev pub invariant-loop-byte : goal.invariant-loop-byte
invariant-loop-byte l = Follows l.fn.self (take l.byte-index l.bytes) l.self
