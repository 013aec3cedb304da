use Rattle.std.proofs.Common.{◌≡◌, drop, fold}
use Rattle.archive_export.specs.Packet.{added}
use Rattle.archive_export.proofs.capture.packet.checksum_of.Given as goal

-- the rest of the words is still to be added
abbrev pub invariant-loop-word : goal.invariant-loop-word
invariant-loop-word l = fold added l.sum (drop l.word-index l.words) ≡ fold added 0 l.words
