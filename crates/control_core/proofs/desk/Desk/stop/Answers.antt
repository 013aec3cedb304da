use Rattle.control_core.proofs.KeptLemmas.{kept_stopped}
use Rattle.control_core.proofs.desk.Desk.stop.Goals as goal

pub invariant_of-self : goal.invariant_of-self
invariant_of-self c = rw (c.change.ensures.state, c.end.ensures.values, c.end.ensures.next) (kept_stopped _ _ _ _ c.self.invariant)
