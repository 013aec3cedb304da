use Rattle.std.proofs.Common.{length}
use Rattle.call_history.specs.Passes.{AllOfTable}
use Rattle.trial_lock.proofs.crew.jobs_of.Given as goal

-- the passes that are left are of the archive
abbrev pub invariant-loop-pass : goal.invariant-loop-pass
invariant-loop-pass g l = AllOfTable g.A.Naming.table l.passes.items

abbrev pub decreases-loop-pass : goal.decreases-loop-pass
decreases-loop-pass g l = length l.passes.items
