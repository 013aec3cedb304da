-- The frames of a datagram have encodings, and what is bad at its start has no frame in front.
use Rattle.std.proofs.Common.{inl, inr}
use Rattle.std.specs.Prelude.{map}
use Rattle.frame_core.specs.FrameEncoding.{frame_of}
use Rattle.frame_core.proofs.DatagramLemmas.{datagram_encodable}
use Rattle.server_receiver.proofs.ImageLemmas.{refused_at_start}
use Rattle.server_receiver.proofs.images.Images.take_datagram.Goals as goal

pub take_frames-requires : goal.take_frames-requires
take_frames-requires c = rw c.as_slice.ensures.value (datagram_encodable c.args.datagram.now (map frame_of c.in-Ok.frames.items) c.in-Ok.ensures)

pub returns-in-Err-BadFrame-eq0 : goal.returns-in-Err-BadFrame-eq0
returns-in-Err-BadFrame-eq0 c =
    let bad = c.in-Err-BadFrame-eq0 in
    inr (inl (refused_at_start c.args.datagram.now bad.field-0 bad.field-0-0 bad.field-0-is bad.field-0-0-test bad.ensures, c.take_setup.ensures))
