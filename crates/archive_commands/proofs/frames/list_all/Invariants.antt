use Rattle.std.proofs.Common.{◌≤◌, ◌-◌}
use Rattle.archive_commands.proofs.FrameLinesLemmas.{HasListed}
use Rattle.archive_commands.proofs.frames.list_all.Given as goal

abbrev pub invariant-loop-listing : goal.invariant-loop-listing
invariant-loop-listing g l = record {
  fewer : l.progress.count ≤ l.progress.reads;
  listed : HasListed (g.R.Read.remaining l.fn.reader) (g.R.Read.remaining l.reader) (g.W.Write.contents l.fn.writer) (g.W.Write.contents l.writer) l.progress;
}

abbrev pub decreases-loop-listing : goal.decreases-loop-listing
decreases-loop-listing g l = 9223372036854775807 - l.progress.reads
