use Rattle.std.proofs.Common.{◌≡◌, ◌++◌, drop}
use Rattle.std.specs.String.{string_bytes}
use Rattle.std.specs.List.{enumerate_from, flat_map}
use Rattle.server_state.specs.Listing.{image_lines, numbered_line}
use Rattle.server_state.proofs.listing.put_images.Given as goal

abbrev pub invariant-loop-place : goal.invariant-loop-place
invariant-loop-place l = string_bytes l.out ++ flat_map (numbered_line l.pairs) (enumerate_from l.place (drop l.place l.pairs.images)) ≡ string_bytes l.fn.out ++ image_lines l.pairs
