use Rattle.control_lines.proofs.LineTextLemmas.{line_is_read}
use Rattle.control_lines.proofs.laws.spellings_are_read.Goals as goal

pub returns : goal.returns
returns c = line_is_read
