use Rattle.std.proofs.Common.{◌≤◌, ◌-◌, length}
use Rattle.recorded_times.proofs.SearchLemmas.{Skipped}
use Rattle.recorded_times.proofs.reading.first_line.Given as goal

-- no line so far
abbrev pub invariant-texts : goal.invariant-texts
invariant-texts l = (l.start ≤ length l.fn.bytes) × Skipped l.fn.bytes l.start

abbrev pub decreases-texts : goal.decreases-texts
decreases-texts l = length l.fn.bytes - l.start
