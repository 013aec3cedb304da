use Rattle.std.proofs.Common.{◌≡◌, ◌≤◌, ◌<◌, ◌-◌, take, length}
use Rattle.std.specs.Io.KnownBytes.{Consumes}
use Rattle.archive_commands.proofs.stored.read_header.Given as goal

abbrev pub invariant-loop-size : goal.invariant-loop-size
invariant-loop-size g l = record {
  counted : l.fn.reads ≤ l.reads;
  began : 0 < l.size → (l.fn.reads < 9223372036854775807) × (l.fn.reads < l.reads);
  whole : length l.out ≡ 32;
  within : l.size ≤ 32;
  filled : Consumes (g.R.Read.remaining l.fn.reader) (g.R.Read.remaining l.reader) (take l.size l.out);
}

abbrev pub decreases-loop-size : goal.decreases-loop-size
decreases-loop-size g l = 9223372036854775807 - l.reads
