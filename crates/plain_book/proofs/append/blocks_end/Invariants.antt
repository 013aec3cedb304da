use Rattle.std.proofs.Common.{◌≡◌, ◌+ℤ◌, pos, drop}
use Rattle.frame_core.specs.Block.{covered}
use Rattle.archive_model.specs.Commands.{frames_of}
use Rattle.archive_model.specs.Acceptance.{AreBlocksFrom}
use Rattle.plain_book.proofs.append.blocks_end.Given as goal

abbrev pub invariant-loop-block : goal.invariant-loop-block
invariant-loop-block l = record {
  on : AreBlocksFrom l.geometry l.publication l.start l.blocks → AreBlocksFrom l.geometry l.publication l.at (drop l.block-index l.blocks);
  back : AreBlocksFrom l.geometry l.publication l.at (drop l.block-index l.blocks) → AreBlocksFrom l.geometry l.publication l.start l.blocks;
  sum : l.at +ℤ pos (covered (frames_of (drop l.block-index l.blocks))) ≡ l.start +ℤ pos (covered (frames_of l.blocks));
}
