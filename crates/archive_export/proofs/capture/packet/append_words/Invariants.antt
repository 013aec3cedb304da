use Rattle.std.proofs.Common.{◌≡◌, ◌++◌, drop}
use Rattle.archive_export.specs.Packet.{in_network_order}
use Rattle.archive_export.proofs.capture.packet.append_words.Given as goal

-- the rest of the words is still to be written
abbrev pub invariant-loop-word : goal.invariant-loop-word
invariant-loop-word l = l.bytes.items ++ in_network_order (drop l.word-index l.words) ≡ l.fn.bytes.items ++ in_network_order l.words
