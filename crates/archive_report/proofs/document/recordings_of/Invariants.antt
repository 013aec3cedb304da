use Rattle.std.proofs.Common.{◌≡◌, map, take}
use Rattle.serde_json.specs.View.{view}
use Rattle.archive_report.specs.DocumentData.{recording_data}
use Rattle.archive_report.proofs.document.recordings_of.Given as goal

abbrev pub invariant-loop-known : goal.invariant-loop-known
invariant-loop-known l = map view l.found.items ≡ map (recording_data l.summary.files.items) (take l.known-index l.recordings)
