use Rattle.std.proofs.Common.{◌≡◌, ◌<◌, ◌^◌, ◌++◌, take}
use Rattle.plain_book.proofs.CutLemmas.{ended_from}
use Rattle.plain_book.proofs.cut.ended_by.Given as goal

abbrev pub invariant-loop-ended : goal.invariant-loop-ended
invariant-loop-ended l = record {
  small : l.at < 2 ^ 63;
  together : take l.ended l.frames ++ ended_from l.position l.at l.ended l.frames ≡ ended_from l.position l.start 0 l.frames;
}
