use Rattle.std.proofs.Common.{drop}
use Rattle.std.specs.Prelude.{map}
use Rattle.frame_core.proofs.BlockLemmas.{RunsOn}
use Rattle.frame_core.proofs.block.run_size.Given as goal

-- the run goes on from the offset with the frames from the index on
abbrev pub invariant-loop-frame : goal.invariant-loop-frame
invariant-loop-frame g l = RunsOn l.ids l.start (map g.F.AsFrame.frame l.frames) l.offset (map g.F.AsFrame.frame (drop l.frame-index l.frames))
