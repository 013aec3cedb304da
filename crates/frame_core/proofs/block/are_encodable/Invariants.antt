use Rattle.std.proofs.Common.{drop}
use Rattle.frame_core.specs.Block.{AreEncodable}
use Rattle.frame_core.proofs.block.are_encodable.Given as goal

-- those before the index have an encoding
abbrev pub invariant-loop-frame : goal.invariant-loop-frame
invariant-loop-frame l = (AreEncodable (drop l.frame-index l.frames) → AreEncodable l.frames) × (AreEncodable l.frames → AreEncodable (drop l.frame-index l.frames))
