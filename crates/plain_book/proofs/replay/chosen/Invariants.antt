use Rattle.std.proofs.Common.{◌≡◌, ◌++◌, pos, drop, filter}
use Rattle.archive_model.specs.Replay.{placed, frames_in, is_between}
use Rattle.plain_book.proofs.replay.chosen.Given as goal

abbrev pub invariant-loop-frame : goal.invariant-loop-frame
invariant-loop-frame l =
    l.found.items ++ frames_in (filter (is_between l.from l.bound) (placed (pos l.at) (drop l.frame-index l.frames)))
    ≡ frames_in (filter (is_between l.from l.bound) (placed (pos l.start) l.frames))
