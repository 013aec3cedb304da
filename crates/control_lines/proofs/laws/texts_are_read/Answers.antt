use Rattle.control_lines.proofs.LineTextLemmas.{text_is_read}
use Rattle.control_lines.proofs.laws.texts_are_read.Goals as goal

pub returns : goal.returns
returns c = text_is_read
