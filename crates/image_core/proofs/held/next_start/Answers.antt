use Rattle.std.proofs.Common.{rules, ◌∙◌, sym}
use Rattle.image_core.proofs.RangeLemmas.{next_none, next_some}
use Rattle.image_core.proofs.held.next_start.Goals as goal

pub returns-in-Some : goal.returns-in-Some
returns-in-Some c = sym (next_some c.args.position c.args.other _ _ (c.in-Some.start.now, c.in-Some.field-0-1.now) (sym (c.range.ensures.between tt) ∙ c.in-Some.ensures.steps))

pub returns-in-None : goal.returns-in-None
returns-in-None c = sym (next_none c.args.position c.args.other _ (sym (c.range.ensures.between tt) ∙ search rules))
