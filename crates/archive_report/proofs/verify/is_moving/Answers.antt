use Rattle.archive_report.proofs.ReportLemmas.{read_again}
use Rattle.archive_report.proofs.verify.is_moving.Goals as goal

pub returns-in-Ok-Refused-clause-inside : goal.returns-in-Ok-Refused-clause-inside
returns-in-Ok-Refused-clause-inside g c = read_again g.D.Disk.life c.args.view.now.disk c.has_moved.new.self.disk _ c.has_moved.result c.has_moved.ensures.answer
