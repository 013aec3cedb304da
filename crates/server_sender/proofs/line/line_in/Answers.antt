use Rattle.server_sender.proofs.LineLemmas.{begins_no_line}
use Rattle.server_sender.proofs.line.line_in.Goals as goal

pub returns : goal.returns
returns c = begins_no_line c.args.text.now c.in_default.ensures.cases c.in_default-strip_prefix.ensures.cases
