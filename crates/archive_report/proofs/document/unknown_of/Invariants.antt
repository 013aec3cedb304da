use Rattle.std.proofs.Common.{◌≡◌, map, take}
use Rattle.serde_json.specs.View.{view}
use Rattle.archive_report.specs.DocumentData.{unknown_data}
use Rattle.archive_report.proofs.document.unknown_of.Given as goal

abbrev pub invariant-loop-file : goal.invariant-loop-file
invariant-loop-file l = map view l.found.items ≡ map (unknown_data) (take l.file-index l.unknown)
