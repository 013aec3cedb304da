use Rattle.std.proofs.Common.{◌≡◌, ◌≤◌, ◌++◌, length}
use Rattle.archive_model.proofs.ReplayLemmas.{rest_between}
use Rattle.plain_book.proofs.replay.first_chosen.Given as goal

abbrev pub invariant-loop-frame : goal.invariant-loop-frame
invariant-loop-frame l = record {
  few : length l.found.items ≤ l.count;
  together : l.found.items ++ rest_between l.from l.bound l.at l.frame-index l.frames ≡ rest_between l.from l.bound l.start 0 l.frames;
}
