use Rattle.server_sender.proofs.LineLemmas.{is_no_line}
use Rattle.server_sender.proofs.line.send_line.Goals as goal

pub returns-in-Err : goal.returns-in-Err
returns-in-Err c = is_no_line c.args.text.now c.in-Err.ensures.cases.0
