use Rattle.std.proofs.Common.{◌-◌}
use Rattle.std.specs.Io.Buffered.{reader_remaining}
use Rattle.tool_core.proofs.AnsweringLemmas.{Came}
use Rattle.tool_core.proofs.script.run_lines.Given as goal

abbrev pub invariant-lines : goal.invariant-lines
invariant-lines g l = Came g.A.Answerer.ways g.A.Answerer.checkpoints l.fn.state (reader_remaining g.R.Read.remaining l.fn.reader) (reader_remaining g.R.Read.remaining l.reader) (g.W.Write.contents l.fn.writer) (g.W.Write.contents l.writer) l.state

abbrev pub decreases-lines : goal.decreases-lines
decreases-lines g l = 18446744073709551615 - l.reads
