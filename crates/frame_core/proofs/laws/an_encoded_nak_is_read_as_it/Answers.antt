use Rattle.frame_core.proofs.NakLemmas.{IsNak-encoded_nak, encoded_nak-IsNak}
use Rattle.frame_core.proofs.laws.an_encoded_nak_is_read_as_it.Goals as goal

pub returns : goal.returns
returns c = record { read = IsNak-encoded_nak; bytes = encoded_nak-IsNak }
