use Rattle.std.proofs.Common.{sym}
use Rattle.frame_core.specs.FrameEncoding.{frame_of}
use Rattle.frame_core.proofs.FrontLemmas.{length-encoded}
use Rattle.settled_replays.proofs.sent_frames.encoded_length.Goals as goal

pub returns : goal.returns
returns c = sym (length-encoded (frame_of c.args.frame.now))
