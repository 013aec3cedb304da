-- An archive as it stands on a disk that is only read: docs/STORAGE.md, "Looking at an archive".
use Rattle.std.specs.Prelude.{◌≡◌, ◌==◌, ◌||◌, not, Bool, false, List, count_by, int_lt}
use Rattle.disk_core.specs.declared.file_id.FileId.{FileId}
use Rattle.disk_core.specs.declared.file_id.FileId.TheVariants.{BankA, BankB, Segment}
use Rattle.disk_core.specs.DiskImage.{DiskImage}
use Rattle.archive_model.specs.Register.{RegisterState, no_recordings}
use Rattle.catalogue_log.specs.declared.bank.BankHeader.{BankHeader}
use Rattle.catalogue_entries.specs.declared.entry.Entry.{Entry}
use Rattle.catalogue_log.specs.Catalogue.{IsCatalogue}
use Rattle.catalogue_log.specs.LogState.{IsLogIn, LogState}
use Rattle.catalogue_entries.specs.Fold.{after_entries, counts}
use Rattle.control_core.specs.Desk.{DeskState, opened_desk}

-- The desk is that of the image's catalogue, with the recordings as its entries leave them: an active one is active. The log
-- stands behind its entries.
pub record IsAsCatalogued (image : DiskImage) (desk : DeskState) (log : LogState) : Type 0 where
  pub entries : List Entry
  pub catalogue : IsCatalogue image log.header entries
  pub log_is : IsLogIn image log entries
  pub is : desk ≡ opened_desk (after_entries no_recordings entries) (count_by counts entries) log.header.history_limit log.header.version

-- whether another number of entries counts in the image's catalogue than in front of the log, or it has another epoch
pub record TellsMoved (image : DiskImage) (log : LogState) (moved : Bool) : Type 0 where
  pub header : BankHeader
  pub entries : List Entry
  pub catalogue : IsCatalogue image header entries
  pub is : moved ≡ not (count_by counts entries == log.counted) || not (header.epoch == log.header.epoch)

-- a segment file of no recording whose id was given
abbrev pub is_unknown : RegisterState → FileId → Bool
is_unknown g BankA = false
is_unknown g BankB = false
is_unknown g (Segment id base) = not (int_lt id g.next)
