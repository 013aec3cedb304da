use Rattle.std.proofs.Common.{◌≡◌, take}
use Rattle.std.specs.Prelude.{map}
use Rattle.frame_core.specs.FrameEncoding.{frame_of}
use Rattle.frame_core.proofs.block.owned.Given as goal

-- those before the index are copied
abbrev pub invariant-loop-frame : goal.invariant-loop-frame
invariant-loop-frame l = l.frames ≡ map frame_of (take l.frame-index l.lent)
