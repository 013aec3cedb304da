use Rattle.std.proofs.Common.{sym, arith}
use Rattle.frame_core.specs.FrameEncoding.{frame_of}
use Rattle.image_core.proofs.KeptLemmas.{has_size}
use Rattle.image_core.proofs.image.Image.frame_fate.Goals as goal

pub is_open-requires : goal.is_open-requires
is_open-requires c =
    let some = has_size c.self.inside.geometry c.self.inside.publication (frame_of c.args.frame.now) c.in-Some.position c.requires (sym c.in-Some.ensures.position) in
    omega (arith, some, c.aligned_length.ensures.value)
