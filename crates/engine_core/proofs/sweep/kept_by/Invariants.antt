use Rattle.std.proofs.Common.{◌≡◌, ◌∷◌, ◌++◌, map, drop}
use Rattle.engine_core.proofs.Words.{Below}
use Rattle.engine_core.specs.Moves.{registered_keep}
use Rattle.engine_core.proofs.sweep.kept_by.Given as goal

abbrev pub invariant-loop-known : goal.invariant-loop-known
invariant-loop-known l = l.keeps.items ++ map registered_keep (drop l.known-index l.recordings) ≡ Below l.next ∷ map registered_keep l.recordings
