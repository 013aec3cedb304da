use Rattle.std.proofs.Common.{◌≤◌, ◌-◌}
use Rattle.std.specs.Io.KnownBytes.{Keeps}
use Rattle.tool_core.proofs.PartsLemmas.{HasRead}
use Rattle.tool_core.proofs.lines.read_line.Given as goal

abbrev pub invariant-loop-line : goal.invariant-loop-line
invariant-loop-line g l = record {
  counted : l.fn.reads ≤ l.reads;
  read : HasRead (g.R.Read.remaining l.fn.reader) (g.R.Read.remaining l.reader) l.line;
  spent : 9223372036854775807 ≤ l.fn.reads → Keeps (g.R.Read.remaining l.fn.reader) (g.R.Read.remaining l.reader);
}

abbrev pub decreases-loop-line : goal.decreases-loop-line
decreases-loop-line g l = 9223372036854775807 - l.reads
