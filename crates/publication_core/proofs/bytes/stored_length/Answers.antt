use Rattle.std.proofs.Common.{sym}
use Rattle.frame_core.specs.FrameEncoding.{frame_of}
use Rattle.publication_core.proofs.BytesLemmas.{length_pad}
use Rattle.publication_core.proofs.bytes.stored_length.Goals as goal

pub returns-in-Pad : goal.returns-in-Pad
returns-in-Pad c = sym (length_pad c.args.frame.now.kind (frame_of c.args.frame.now) c.in-Pad.is)
