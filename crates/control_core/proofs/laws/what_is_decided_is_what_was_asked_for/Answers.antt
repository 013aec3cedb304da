use Rattle.control_core.proofs.AgreementLemmas.{asked_is}
use Rattle.control_core.proofs.laws.what_is_decided_is_what_was_asked_for.Goals as goal

pub returns : goal.returns
returns c = asked_is
