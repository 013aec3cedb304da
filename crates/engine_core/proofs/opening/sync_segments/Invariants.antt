use Rattle.std.proofs.Common.{take}
use Rattle.engine_core.proofs.openings.OpeningLemmas.{AreSynced}
use Rattle.engine_core.proofs.opening.sync_segments.Given as goal

abbrev pub invariant-loop-file : goal.invariant-loop-file
invariant-loop-file g l = AreSynced (g.D.Disk.life l.initial.disk) (g.D.Disk.life l.disk) (take l.file-index l.files)
