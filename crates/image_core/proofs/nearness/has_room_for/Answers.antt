use Rattle.std.proofs.Common.{◌∙◌, sym}
use Rattle.std.proofs.lemmas.List.Folds.{list_all-map}
use Rattle.frame_core.specs.FrameEncoding.{frame_of}
use Rattle.image_core.specs.Stock.{is_near, stock_end}
use Rattle.image_core.proofs.nearness.has_room_for.Goals as goal

pub returns : goal.returns
returns c =
    let image = c.args.image.now in
    c.are_near.ensures ∙ rw (c.geometry.ensures, c.stock_end.ensures.end) (sym (list_all-map (is_near image.geometry (stock_end image)) frame_of c.args.frames.now))
