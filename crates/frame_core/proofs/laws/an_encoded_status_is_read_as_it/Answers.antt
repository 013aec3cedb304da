use Rattle.frame_core.proofs.StatusLemmas.{IsStatus-encoded_status, encoded_status-IsStatus}
use Rattle.frame_core.proofs.laws.an_encoded_status_is_read_as_it.Goals as goal

pub returns : goal.returns
returns c = record { read = IsStatus-encoded_status; bytes = encoded_status-IsStatus }
