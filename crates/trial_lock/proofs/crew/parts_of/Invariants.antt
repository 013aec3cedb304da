use Rattle.call_history.specs.Passes.{AllOfTable}
use Rattle.trial_lock.proofs.crew.parts_of.Given as goal

abbrev pub invariant-loop-job : goal.invariant-loop-job
invariant-loop-job g l = AllOfTable g.A.Naming.table l.passes.items
