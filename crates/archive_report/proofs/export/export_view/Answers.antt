use Rattle.std.proofs.Common.{◌≡◌, ap, ◌∙◌, inr, ℕ, ℤ, List, Option}
use Rattle.disk_core.specs.Life.{Life}
use Rattle.archive_view.specs.declared.view.ArchiveView.{ArchiveView}
use Rattle.archive_view.specs.ReadOnly.{disk_of}
use Rattle.archive_view.specs.Viewed.{desk_of}
use Rattle.archive_export.specs.declared.frames.ExportFault.{ExportFault}
use Rattle.archive_export.specs.declared.frames.ExportFault.TheVariants as faults
use Rattle.archive_export.specs.declared.span.Span.{Span}
use Rattle.archive_export.specs.Exporting.{FailsToExport}
use Rattle.archive_report.specs.Exported.{FailsToExportFrom, stop_of}
use Rattle.archive_report.specs.Viewing.{ShowsDesk, inner}
use Rattle.archive_report.proofs.export.export_view.Goals as goal

told : {D : Type 0} (life : D → Life) (old : Life) (disk : D) (recording : ℤ) (span : Span) (fault : ExportFault) (contents written : Option (List ℕ)) (seen last : ArchiveView D) → ShowsDesk old (inner life seen) (desk_of seen)
    → FailsToExport life seen last recording span fault → life disk ≡ inner life last → FailsToExportFrom life old disk recording span (stop_of fault) contents written
told life old disk recording span (faults.Refused refusal) contents written seen last shown fails left = inr (record { seen = seen; shown = shown; last = last; refused = fails; left = left })
told life old disk recording span faults.Write contents written seen last shown fails left = record { seen = seen; shown = shown; last = last; looked = fails; left = left }

pub returns-in-Ok-clause-exported : goal.returns-in-Ok-clause-exported
returns-in-Ok-clause-exported g c = record {
  seen = c.in_ok-view.view;
  shown = c.in_ok-view.ensures.viewed;
  last = c.export-outcome.new.view;
  exported = c.in-Ok.ensures.exported;
  left = ap g.D.Disk.life (c.into_disk-disk.ensures ∙ ap disk_of c.into_disk.ensures);
}

pub returns-in-Err-clause-fault : goal.returns-in-Err-clause-fault
returns-in-Err-clause-fault g c =
    rw c.why_of.ensures
    (told g.D.Disk.life (g.D.Disk.life c.args.disk) c.into_disk-disk.result c.args.recording.now c.args.span.now c.in-Err.fault _ _ c.in_ok-view.view c.export-outcome.new.view c.in_ok-view.ensures.viewed c.in-Err.ensures.refused
    (ap g.D.Disk.life (c.into_disk-disk.ensures ∙ ap disk_of c.into_disk.ensures)))
