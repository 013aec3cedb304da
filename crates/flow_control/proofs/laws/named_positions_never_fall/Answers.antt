use Rattle.flow_control.proofs.AdmissionLemmas.{consumed, further, rising, settled}
use Rattle.flow_control.proofs.AlignmentLemmas.{told_aligned}
use Rattle.flow_control.proofs.laws.named_positions_never_fall.Goals as goal

pub returns-clause-rising : goal.returns-clause-rising
returns-clause-rising c old new bound later on up = rising old new bound later on up

pub returns-clause-consumed : goal.returns-clause-consumed
returns-clause-consumed c r bound = consumed r bound

pub returns-clause-aligned : goal.returns-clause-aligned
returns-clause-aligned c r bound is = told_aligned r bound is

pub returns-clause-settled : goal.returns-clause-settled
returns-clause-settled c r most at low high aligned before = settled r most at low high aligned before

pub returns-clause-further : goal.returns-clause-further
returns-clause-further c g most at later up = further g most at later up
