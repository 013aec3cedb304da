use Rattle.std.proofs.Common.{◌≡◌, map, take}
use Rattle.serde_json.specs.View.{view}
use Rattle.archive_report.specs.DocumentData.{stale_data}
use Rattle.archive_report.proofs.document.stale_of.Given as goal

abbrev pub invariant-loop-file : goal.invariant-loop-file
invariant-loop-file l = map view l.found.items ≡ map (stale_data l.desk.state.register) (take l.file-index l.stale)
