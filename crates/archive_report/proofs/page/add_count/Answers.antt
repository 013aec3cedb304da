use Rattle.archive_report.specs.PageText.{count_line}
use Rattle.archive_report.proofs.page.add_count.Goals as goal

pub returns : goal.returns
unfolding count_line
returns c = rw (c.recordings.ensures.all, c.active_count-active.ensures.count) at c.writeln.ensures.bytes
