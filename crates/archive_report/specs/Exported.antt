-- What `export` writes of an archive that is only looked at: docs/CONTROL.md, "Exporting frames".
use Rattle.std.specs.Prelude.{◌≡◌, ◌⊎◌, ℕ, ℤ, List, Option}
use Rattle.frame_core.specs.declared.refusal.Refusal.{Refusal}
use Rattle.disk_core.specs.Life.{Life}
use Rattle.archive_commands.specs.declared.commands.Stop.{Stop}
use Rattle.archive_commands.specs.declared.commands.Stop.TheVariants.{Refused, Cut}
use Rattle.tool_core.specs.declared.fault.EarlyEnd.TheVariants as ends
use Rattle.archive_view.specs.declared.view.ArchiveView.{ArchiveView}
use Rattle.archive_view.specs.Viewed.{desk_of}
use Rattle.archive_export.specs.declared.span.Span.{Span}
use Rattle.archive_export.specs.declared.frames.ExportFault.{ExportFault}
use Rattle.archive_export.specs.declared.frames.ExportFault.TheVariants as faults
use Rattle.archive_export.specs.Exporting.{HasExported, IsLookedOn, RefusesExport}
use Rattle.archive_report.specs.Viewing.{IsUnviewedBy, ShowsDesk, inner}

-- why the command ends
abbrev pub stop_of : ExportFault → Stop
stop_of (faults.Refused refusal) = Refused refusal
stop_of faults.Write = Cut ends.Write

module _ {D : Type 0} (life : D → Life) where
  -- the archive was seen, and the span of its recording is written
  pub record HasExportedFrom (old new : Life) (recording : ℤ) (span : Span) (contents written : Option (List ℕ)) : Type 0 where
    pub seen : ArchiveView D
    pub shown : ShowsDesk old (inner life seen) (desk_of seen)
    pub last : ArchiveView D
    pub exported : HasExported life seen last recording span contents written
    pub left : new ≡ inner life last

  -- it was seen, and refuses
  pub record HasRefusedFrom (old new : Life) (recording : ℤ) (span : Span) (refusal : Refusal) : Type 0 where
    pub seen : ArchiveView D
    pub shown : ShowsDesk old (inner life seen) (desk_of seen)
    pub last : ArchiveView D
    pub refused : RefusesExport life seen last recording span refusal
    pub left : new ≡ inner life last

  -- it was seen, and its frames could not be written
  pub record HasLookedFrom (old new : Life) : Type 0 where
    pub seen : ArchiveView D
    pub shown : ShowsDesk old (inner life seen) (desk_of seen)
    pub last : ArchiveView D
    pub looked : IsLookedOn life seen last
    pub left : new ≡ inner life last

  -- it was not seen, and nothing is written; or it was
  abbrev pub FailsToExportFrom : Life → D → ℤ → Span → Stop → Option (List ℕ) → Option (List ℕ) → Type 0
  FailsToExportFrom old disk recording span (Refused refusal) contents written =
      (IsUnviewedBy life old disk (Refused refusal) × (written ≡ contents)) ⊎ HasRefusedFrom old (life disk) recording span refusal
  FailsToExportFrom old disk recording span (Cut ends.Write) contents written = HasLookedFrom old (life disk)
  FailsToExportFrom old disk recording span (Cut end) contents written = ⊥
