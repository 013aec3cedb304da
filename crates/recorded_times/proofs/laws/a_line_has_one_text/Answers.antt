-- A line has one text.
use Rattle.recorded_times.proofs.LineLemmas.{one_text}
use Rattle.recorded_times.proofs.laws.a_line_has_one_text.Goals as goal

pub returns : goal.returns
returns c = one_text
