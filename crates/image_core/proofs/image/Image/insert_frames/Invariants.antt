use Rattle.std.proofs.Common.{drop}
use Rattle.image_core.specs.Kept.{IsKeptImage}
use Rattle.image_core.proofs.InsertLemmas.{GoesOn}
use Rattle.image_core.proofs.image.Image.insert_frames.Given as goal

-- the frames before the index were taken in
abbrev pub invariant-loop-frame : goal.invariant-loop-frame
invariant-loop-frame l = record {
  so : GoesOn l.fn.self l.high l.frames l.frame-index l.inserted l.noted.items l.self (drop l.frame-index l.frames);
  kept : IsKeptImage l.fn.self l.rebuilt;
}
