use Rattle.std.proofs.Common.{◌≡◌, ◌++◌, ◌≤◌, length, take}
use Rattle.std.specs.Vec.Iter.{into_iter_items}
use Rattle.archive_model.specs.Commands.{frames_of}
use Rattle.plain_book.proofs.append.join_frames.Given as goal

abbrev pub invariant-loop-block : goal.invariant-loop-block
invariant-loop-block l = record {
  within : l.before ≤ length l.frames.items;
  earlier : take l.before l.frames.items ≡ l.fn.frames.items;
  together : l.frames.items ++ frames_of (into_iter_items l.block-iterator) ≡ l.fn.frames.items ++ frames_of l.fn.blocks;
}
