use Rattle.trial_lock.proofs.PassLemmas.{all_new}
use Rattle.trial_lock.proofs.crew.shared.Goals as goal

-- the passes are new ones of the archive
pub at_work-done-requires-after_bounds : goal.at_work-done-requires-after_bounds
at_work-done-requires-after_bounds g c κs within = rw c.in-Ok.ensures.passes (all_new g.A.Naming.table c.args.threads)
