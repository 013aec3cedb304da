use Rattle.control_lines.proofs.LinesLemmas.{read_copies-text, read_of-text, read_of-bytes}
use Rattle.control_lines.proofs.parse.line_of_bytes.Goals as goal

pub returns-in-Ok : goal.returns-in-Ok
returns-in-Ok c = rw (read_copies-text c.args.line.now c.in-Ok.ensures.cases.1, read_of-text c.args.line.now c.in-Ok.ensures.cases.1, ← c.in-Ok.ensures.cases.0) c.line_of_text.ensures

pub returns-in-Err : goal.returns-in-Err
returns-in-Err c = read_of-bytes c.args.line.now c.in-Err.ensures.cases.0
