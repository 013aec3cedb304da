use Rattle.start_faults.proofs.StartLemmas.{in_range_of_none, none_of_in_range}
use Rattle.start_faults.proofs.laws.none_is_wrong_in_range.Goals as goal

pub returns : goal.returns
returns c = λ fields. (in_range_of_none fields, none_of_in_range fields)
