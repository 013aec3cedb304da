use Rattle.stream_pairs.proofs.RunLemmas.{opened_waits, joined_waits}
use Rattle.stream_pairs.proofs.laws.no_image_waits_for_a_session_that_takes_it.Goals as goal

pub returns-clause-opened : goal.returns-clause-opened
returns-clause-opened c = opened_waits

pub returns-clause-joined : goal.returns-clause-joined
returns-clause-joined c = joined_waits
