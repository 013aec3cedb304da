use Rattle.control_core.proofs.ConsistentLemmas.{consistent_opened}
use Rattle.control_core.proofs.laws.an_opened_archive_is_consistent.Goals as goal

pub returns : goal.returns
returns c = consistent_opened
