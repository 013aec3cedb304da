use Rattle.control_core.proofs.KeptLemmas.{kept_restarted}
use Rattle.control_core.proofs.desk.Desk.restart.Goals as goal

pub invariant_of-self : goal.invariant_of-self
invariant_of-self c = rw (c.restart.ensures, c.clear.ensures.values, c.clear.ensures.next, c.clear-2.ensures.values, c.clear-2.ensures.next) (kept_restarted _ _ c.self.invariant)
