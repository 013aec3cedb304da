use Rattle.std.proofs.Common.{◌∙◌}
use Rattle.image_core.proofs.UndoLemmas.{without_last}
use Rattle.image_core.proofs.held.withdraw.Goals as goal

pub each-preserved : goal.each-preserved
each-preserved c = without_last c.pop.new.self.items _ c.in-Some.position c.each.held.entries _ c.in-Some.ensures.items c.remove.ensures.entries ∙ c.each.invariant

pub each-preserved-in-Some : goal.each-preserved-in-Some
each-preserved-in-Some c = without_last c.pop.new.self.items _ c.in-Some.position c.each.held.entries _ c.in-Some.ensures.items c.remove.ensures.entries ∙ c.each.invariant
