use Rattle.std.proofs.Common.{◌≡◌, ◌++◌, take}
use Rattle.std.specs.String.{string_bytes}
use Rattle.std.specs.List.{flat_map}
use Rattle.metrics_text.specs.MetricsText.{hole_line}
use Rattle.metrics_text.proofs.publication_holes.put_hole_lines.Given as goal

abbrev pub invariant-loop-image : goal.invariant-loop-image
invariant-loop-image l = string_bytes l.out ≡ string_bytes l.fn.out ++ flat_map (hole_line l.who) (take l.image-index l.images)
