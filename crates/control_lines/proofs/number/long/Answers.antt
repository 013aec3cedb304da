use Rattle.control_lines.proofs.NumbersLemmas.{long_of-refused}
use Rattle.control_lines.proofs.number.long.Goals as goal

pub returns-in_default : goal.returns-in_default
returns-in_default c = long_of-refused _ _ c.args.word.now c.in_default.is c.parse.ensures.value.0
