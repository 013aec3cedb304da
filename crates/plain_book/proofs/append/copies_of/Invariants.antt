use Rattle.std.proofs.Common.{◌≡◌, take}
use Rattle.plain_book.proofs.append.copies_of.Given as goal

abbrev pub invariant-loop-block : goal.invariant-loop-block
invariant-loop-block l = l.copies ≡ take l.block-index l.blocks
