use Rattle.archive_report.specs.PageText.{history_lines}
use Rattle.archive_report.proofs.page.add_history.Goals as goal

pub returns : goal.returns
unfolding history_lines
returns c = rw (c.counted-counted.ensures, c.limit-limit.ensures, c.version_number-version.ensures, c.version.ensures) at c.writeln.ensures.bytes
