-- What segment files hold of a frame, in bytes.
use Rattle.std.proofs.Common.{◌≡◌, length}
use Rattle.frame_core.specs.declared.frame.Frame.{Frame}
use Rattle.frame_core.specs.declared.frame.FrameKind.{FrameKind}
use Rattle.frame_core.specs.declared.frame.FrameKind.TheVariants.{Heartbeat, Message, Pad}
use Rattle.frame_core.specs.FrameEncoding.{stored_as}
use Rattle.frame_core.proofs.FrameEncodingLemmas.{length-header_of}

-- a pad has its header
pub length_pad : (kind : FrameKind) (f : Frame) → kind ≡ Pad → length (stored_as kind f) ≡ 32
length_pad Pad f is = length-header_of f
length_pad Message f is = absurd (cc)
length_pad Heartbeat f is = absurd (cc)
