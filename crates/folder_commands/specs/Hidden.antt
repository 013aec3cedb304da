-- Entries that may be hidden behind a closed gate of a folder's catalogue: docs/STORAGE.md, "A closed gate".
use Rattle.std.specs.Prelude.{◌≡◌, IsTrue, Some}
use Rattle.disk_core.specs.declared.file_id.FileId.{FileId}
use Rattle.disk_core.specs.DiskImage.{DiskImage, reads}
use Rattle.disk_core.specs.Life.{Life}
use Rattle.host_disk.specs.Events.{Given}
use Rattle.host_disk.specs.Replay.{life_from}
use Rattle.catalogue_log.specs.declared.hidden.Hidden.{Hidden}
use Rattle.catalogue_log.specs.LogState.{LogState}
use Rattle.control_core.specs.Desk.{DeskState}
use Rattle.archive_view.specs.Hidden.{TellsHiddenEntry}
use Rattle.archive_view.specs.View.{IsAsCatalogued}

-- the catalogue of an image has a log, behind whose closed gate an entry stands that may have been answered
pub record HidesEntry (image : DiskImage) : Type 0 where
  pub desk : DeskState
  pub log : LogState
  pub hidden : Hidden
  pub catalogued : IsAsCatalogued image desk log
  -- the image as it read then
  pub later : DiskImage
  pub same : (file : FileId) → later file ≡ image file
  pub stands : TellsHiddenEntry later desk.register log (Some hidden)

-- The folder with these files was looked at, up to this life, in which each file still reads so; and if what was read of it is what
-- had been written, its catalogue hides an entry.
pub record MayHideEntries (given : Given) (looked : Life) : Type 0 where
  pub same : (file : FileId) → reads looked.now file ≡ reads (life_from given).now file
  pub hides : IsTrue looked.obeys → HidesEntry (reads (life_from given).now)
