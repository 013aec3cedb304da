use Rattle.std.proofs.Common.{drop}
use Rattle.control_core.proofs.ListingLemmas.{IsAsFar}
use Rattle.control_core.proofs.deciding.descriptors.Given as goal

abbrev pub invariant-loop-known : goal.invariant-loop-known
invariant-loop-known l = IsAsFar l.from l.count l.found.items (drop l.known-index l.recordings) l.recordings
