use Rattle.control_core.proofs.ConsistentLemmas.{consistent_call}
use Rattle.control_core.proofs.laws.a_call_keeps_the_archive_consistent.Goals as goal

pub returns : goal.returns
returns c = consistent_call
