use Rattle.control_core.proofs.CommandLemmas.{consistent_after}
use Rattle.control_core.proofs.laws.a_command_keeps_the_archive_consistent.Goals as goal

pub returns : goal.returns
returns c = consistent_after
