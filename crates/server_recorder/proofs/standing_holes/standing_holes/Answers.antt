use Rattle.std.proofs.Common.{◌∙◌, ap₂, add-one}
use Rattle.server_recorder.specs.Holes.{with_hole}
use Rattle.server_recorder.proofs.standing_holes.standing_holes.Goals as goal

pub loop-index-preserved : goal.loop-index-preserved
loop-index-preserved c = rw add-one (c.with_hole-holes.ensures ∙ ap₂ with_hole c.loop-index.invariant c.hole_at.ensures)
