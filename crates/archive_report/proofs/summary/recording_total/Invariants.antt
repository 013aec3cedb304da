use Rattle.std.proofs.Common.{◌≡◌, take}
use Rattle.archive_report.specs.Files.{is_segment_of, total_of}
use Rattle.archive_report.proofs.summary.recording_total.Given as goal

abbrev pub invariant-loop-found : goal.invariant-loop-found
invariant-loop-found l = l.total ≡ total_of (is_segment_of l.recording) (take l.found-index l.files)
