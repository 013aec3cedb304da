use Rattle.frame_core.proofs.FrontLemmas.{encoding_in_front, message_in_front, stored_in_front}
use Rattle.frame_core.proofs.laws.an_encoding_is_read_as_its_frame.Goals as goal

pub returns : goal.returns
returns c = record { any = encoding_in_front; message = message_in_front; stored = stored_in_front }
