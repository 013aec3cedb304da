use Rattle.frame_core.proofs.DatagramLemmas.{one_list, one_offset, not_bad}
use Rattle.frame_core.proofs.laws.a_datagram_has_one_answer.Goals as goal

pub returns : goal.returns
returns c = record { list = one_list; offset = one_offset; apart = not_bad }
