use Rattle.std.proofs.Common.{◌≤◌, ◌-◌}
use Rattle.archive_commands.specs.Stored.{Passes}
use Rattle.archive_commands.proofs.stored.skip.Given as goal

abbrev pub invariant-loop-size : goal.invariant-loop-size
invariant-loop-size g l = record {
  counted : l.fn.reads ≤ l.reads;
  within : l.size ≤ l.most;
  passed : Passes (g.R.Read.remaining l.fn.reader) (g.R.Read.remaining l.reader) l.size;
}

abbrev pub decreases-loop-size : goal.decreases-loop-size
decreases-loop-size g l = 9223372036854775807 - l.reads
