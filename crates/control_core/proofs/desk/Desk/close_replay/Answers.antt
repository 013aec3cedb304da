use Rattle.control_core.proofs.KeptLemmas.{kept_closed}
use Rattle.control_core.proofs.desk.Desk.close_replay.Goals as goal

pub invariant_of-self : goal.invariant_of-self
invariant_of-self c = rw (c.close.ensures.values, c.close.ensures.next) (kept_closed _ _ _ c.self.invariant)
