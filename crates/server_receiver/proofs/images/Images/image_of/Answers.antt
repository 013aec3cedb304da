-- The publication is that of the first frame.
use Rattle.std.proofs.Common.{sym}
use Rattle.server_receiver.proofs.ImageLemmas.{first_image}
use Rattle.server_receiver.proofs.images.Images.image_of.Goals as goal

pub returns-in-Some : goal.returns-in-Some
returns-in-Some c =
    let first = c.in-Some.ensures.item in
    rw (c.index_of.ensures, c.publication_of.ensures) (sym (first_image c.args.frames.now c.in-Some.frame.now c.args.self.now first.3.0 first.1))
