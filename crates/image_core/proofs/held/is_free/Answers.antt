use Rattle.std.proofs.Common.{rules, ◌∙◌, sym, ◌^◌}
use Rattle.image_core.proofs.RangeLemmas.{IsLast, free_last, free_none}
use Rattle.image_core.proofs.held.is_free.Goals.{In-Some}
use Rattle.image_core.proofs.held.is_free.Goals as goal

-- what is found is the last frame that begins before the range's end
last : (c : In-Some) → IsLast c.args.position c.args.end 0 (2 ^ 62) c.args.held.now.entries (c.in-Some.start.now, c.in-Some.frame.now)
last c = free_last c.args.position _ _ _ _ _ _ c.requires.spaced (sym (c.range.ensures.between tt) ∙ c.in-Some.ensures.steps)

pub overflow_add-result : goal.overflow_add-result
overflow_add-result c = let it = last (goal.at.overflow_add-result c).In-Some in search (rules, it.ends)

pub returns-in-Some : goal.returns-in-Some
returns-in-Some c = rw c.aligned_length.ensures.value (sym (last (goal.at.returns-in-Some c).In-Some).free)

pub returns-in-None : goal.returns-in-None
returns-in-None c = sym (free_none c.args.position c.args.end _ (sym (c.range.ensures.between tt) ∙ search rules))
