use Rattle.frame_core.proofs.LimitsLemmas.{is_power, power_is}
use Rattle.frame_core.proofs.laws.term_lengths_are_powers_of_two.Goals as goal

pub returns : goal.returns
returns c = record { powers = is_power; all = power_is }
