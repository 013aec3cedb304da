use Rattle.std.proofs.Common.{◌≡◌, pos, drop}
use Rattle.archive_model.specs.Replay.{placed}
use Rattle.archive_model.proofs.ReplayLemmas.{begins_at}
use Rattle.plain_book.proofs.replay.begins_frame.Given as goal

abbrev pub invariant-loop-frame : goal.invariant-loop-frame
invariant-loop-frame l = begins_at l.position (placed (pos l.at) (drop l.frame-index l.frames)) ≡ begins_at l.position (placed (pos l.start) l.frames)
