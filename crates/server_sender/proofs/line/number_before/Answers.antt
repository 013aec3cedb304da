use Rattle.std.proofs.Common.{rules}
use Rattle.server_sender.proofs.LineLemmas.{cut_at_blank}
use Rattle.server_sender.proofs.line.number_before.Goals as goal

pub returns-in_err-word-clause-none : goal.returns-in_err-word-clause-none
returns-in_err-word-clause-none c = let cut = cut_at_blank c.args.text.now c.split_once.result c.split_once.ensures.cases in search rules

pub returns-in_err-number-clause-none : goal.returns-in_err-number-clause-none
returns-in_err-number-clause-none c = let cut = cut_at_blank c.args.text.now c.split_once.result c.split_once.ensures.cases in search rules
