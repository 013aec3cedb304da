use Rattle.std.proofs.Common.{◌∙◌, sym}
use Rattle.std.specs.Prelude.{map}
use Rattle.frame_core.specs.FrameEncoding.{frame_of}
use Rattle.image_core.proofs.StockLemmas.{offered_any}
use Rattle.image_core.proofs.bounded.BoundedImage.offer.Goals as goal

pub invariant_of-self-2 : goal.invariant_of-self-2
invariant_of-self-2 c =
    offered_any c.self.inside.image c.insert_frames.new.self (map frame_of c.args.frames.now) c.insert_frames.result c.self.invariant (sym c.has_room_for.ensures ∙ c.if-not-has_room_for.false)
    c.insert_frames.ensures.inserted c.insert_frames.ensures.same
