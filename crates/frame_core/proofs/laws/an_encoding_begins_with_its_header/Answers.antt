use Rattle.frame_core.proofs.FrontLemmas.{encoding_has_header, header_is_first}
use Rattle.frame_core.proofs.laws.an_encoding_begins_with_its_header.Goals as goal

pub returns : goal.returns
returns c = record { fields = encoding_has_header; bytes = header_is_first }
