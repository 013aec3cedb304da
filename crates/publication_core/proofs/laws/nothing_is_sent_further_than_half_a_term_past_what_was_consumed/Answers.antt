use Rattle.publication_core.proofs.ReachLemmas.{all_within, is_send}
use Rattle.publication_core.proofs.laws.nothing_is_sent_further_than_half_a_term_past_what_was_consumed.Goals as goal

pub returns-clause-within : goal.returns-clause-within
returns-clause-within c = all_within

pub returns-clause-next : goal.returns-clause-next
returns-clause-next c = is_send
