use Rattle.frame_core.proofs.PositionLemmas.{one_position, one_term}
use Rattle.frame_core.proofs.laws.positions_and_terms_are_inverse.Goals as goal

pub returns : goal.returns
returns c = record { position = one_position; term = one_term }
