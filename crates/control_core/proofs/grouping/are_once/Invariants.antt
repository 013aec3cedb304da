use Rattle.std.proofs.Common.{◌≡◌, drop}
use Rattle.control_core.specs.Turns.{are_once}
use Rattle.control_core.proofs.grouping.are_once.Given as goal

abbrev pub invariant-loop-index : goal.invariant-loop-index
invariant-loop-index l = are_once (drop l.index l.numbers) ≡ are_once l.numbers
