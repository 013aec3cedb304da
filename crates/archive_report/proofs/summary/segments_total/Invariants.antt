use Rattle.std.proofs.Common.{◌≡◌, take}
use Rattle.archive_report.specs.Files.{is_segment, total_of}
use Rattle.archive_report.proofs.summary.segments_total.Given as goal

abbrev pub invariant-loop-found : goal.invariant-loop-found
invariant-loop-found l = l.total ≡ total_of (is_segment) (take l.found-index l.files)
