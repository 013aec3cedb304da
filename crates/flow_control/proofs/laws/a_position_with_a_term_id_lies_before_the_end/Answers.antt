use Rattle.flow_control.proofs.TermLemmas.{has_term_before}
use Rattle.flow_control.proofs.laws.a_position_with_a_term_id_lies_before_the_end.Goals as goal

pub returns : goal.returns
returns c g term_id offset p at = has_term_before g term_id offset p at
