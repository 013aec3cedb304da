use Rattle.std.proofs.Common.{inr}
use Rattle.std.specs.Prelude.{map}
use Rattle.frame_core.specs.FrameEncoding.{frame_of}
use Rattle.frame_core.proofs.DatagramLemmas.{datagram_encodable}
use Rattle.image_core.proofs.image.Image.insert.Goals as goal

pub insert_frames-requires : goal.insert_frames-requires
insert_frames-requires c = rw c.as_slice.ensures.value (datagram_encodable c.args.datagram.now (map frame_of c.in_ok-frames.frames.items) c.in_ok-frames.ensures)

pub returns-clause-inserted : goal.returns-clause-inserted
returns-clause-inserted c =
    let fs = map frame_of c.in_ok-frames.frames.items in
    inr (c.if-is_foreign.ensures, fs, c.in_ok-frames.ensures, rw c.as_slice.ensures.value at c.in_ok-inserted.ensures.inserted)
