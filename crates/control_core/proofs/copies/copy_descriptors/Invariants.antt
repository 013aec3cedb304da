use Rattle.std.proofs.Common.{◌≡◌, take}
use Rattle.control_core.proofs.copies.copy_descriptors.Given as goal

abbrev pub invariant-loop-descriptor : goal.invariant-loop-descriptor
invariant-loop-descriptor l = l.copies ≡ take l.descriptor-index l.descriptors
