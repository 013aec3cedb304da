use Rattle.std.proofs.Common.{◌≡◌, filter, map, drop}
use Rattle.std.specs.Prelude.{fold}
use Rattle.std.specs.Int.{int_max}
use Rattle.archive_model.specs.Register.{id_of}
use Rattle.control_core.specs.Decisions.{matches, greatest}
use Rattle.control_core.proofs.deciding.greatest.Given as goal

abbrev pub invariant-loop-known : goal.invariant-loop-known
invariant-loop-known l = fold int_max l.best (map id_of (filter (matches l.fields) (drop l.known-index l.recordings))) ≡ greatest l.fields l.recordings
