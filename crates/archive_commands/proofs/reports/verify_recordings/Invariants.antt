use Rattle.archive_commands.proofs.ReportLemmas.{HasCome}
use Rattle.archive_commands.proofs.reports.verify_recordings.Given as goal

abbrev pub invariant-loop-id : goal.invariant-loop-id
invariant-loop-id g l = HasCome g.A.Verifiable.verifies l.fn.archive l.archive l.id-items l.id-index (g.W.Write.contents l.fn.writer) (g.W.Write.contents l.writer) l.is_whole
