use Rattle.control_core.proofs.KeptLemmas.{kept_removed}
use Rattle.control_core.proofs.desk.Desk.remove.Goals as goal

pub invariant_of-self : goal.invariant_of-self
invariant_of-self c = rw (c.remove.ensures, c.end.ensures.values, c.end.ensures.next, c.end-2.ensures.values, c.end-2.ensures.next) (kept_removed _ _ _ c.self.invariant)
