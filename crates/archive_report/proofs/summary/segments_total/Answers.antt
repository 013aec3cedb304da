use Rattle.std.proofs.Common.{◌≡◌, ◌∙◌, sym, take}
use Rattle.archive_report.specs.Files.{is_segment, total_of}
use Rattle.archive_report.proofs.FilesLemmas.{none_yet, total_of-more}
use Rattle.archive_report.proofs.summary.segments_total.Goals as goal

pub loop-found-init : goal.loop-found-init
loop-found-init c = none_yet is_segment c.default-total.result c.default-total.ensures.0 c.default-total.ensures.1

pub loop-found-preserved : goal.loop-found-preserved
loop-found-preserved c =
    let so_far : c.loop-found.total ≡ total_of is_segment (take c.loop-found.found-index c.args.files.now) = c.loop-found.invariant in
    c.with-total.ensures ∙ rw (c.is_segment.ensures, so_far) (sym (total_of-more is_segment c.args.files.now c.loop-found.found-index _ c.loop-found-test.true))
