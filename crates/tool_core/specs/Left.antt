-- What a crash leaves of a script's archive: docs/STORAGE.md, "Recovery".
use Rattle.std.specs.Prelude.{◌≡◌, List, count_by}
use Rattle.frame_core.specs.declared.refusal.Refusal.{Refusal}
use Rattle.frame_core.specs.declared.refusal.Refusal.TheVariants.{DeviceFault, NoMemory}
use Rattle.disk_core.specs.declared.file_id.FileId.{FileId}
use Rattle.disk_core.specs.DiskImage.{DiskImage, MayLeave, reads}
use Rattle.disk_core.specs.Life.{Life}
use Rattle.catalogue_log.specs.declared.bank.BankHeader.{BankHeader}
use Rattle.catalogue_entries.specs.declared.entry.Entry.{Entry}
use Rattle.catalogue_log.specs.Catalogue.{IsCatalogue, RefusesCatalogue}
use Rattle.catalogue_log.specs.LogState.{Banks, TellsBanks}
use Rattle.catalogue_entries.specs.Fold.{counts}
use Rattle.control_core.specs.Exact.{Archive}
use Rattle.engine_core.specs.Opened.{LeavesEither}
use Rattle.engine_core.specs.Recovery.{Recovers}
use Rattle.tool_core.specs.ScriptLines.{Scene, Standing, closed, doubtful, opened, refused, shut, unknown}

-- why the disk's catalogue is refused; a fault and want of memory say nothing of it
abbrev pub IsRefusedBy : Life → Refusal → Type 0
IsRefusedBy life DeviceFault = ⊥
IsRefusedBy life NoMemory = ⊥
IsRefusedBy life refusal = RefusesCatalogue (reads life.now) refusal

-- the disk reads as this image, and that is why its catalogue is refused
abbrev pub IsRefused : Life → DiskImage → Refusal → Type 0
IsRefused life image why = IsRefusedBy life why × ((file : FileId) → reads life.now file ≡ image file)

-- every image that a crash now may leave recovers to the state of the archive, and its catalogue has the archive's history and
-- version
pub record LeavesArchive (life : Life) (a : Archive) : Type 0 where
  pub recovers : (image : DiskImage) → MayLeave life.now image → Recovers image a.state
  pub header : BankHeader
  pub entries : List Entry
  pub catalogue : (image : DiskImage) → MayLeave life.now image → IsCatalogue image header entries
  pub counted : a.desk.counted ≡ count_by counts entries
  pub limit : a.desk.limit ≡ header.history_limit
  pub version : a.desk.version ≡ header.version

-- the disk leaves the archive that was closed so, or one of the states that may stand; or there is none, and it reads as it did
abbrev pub LeavesShut : Life → Standing → Type 0
LeavesShut life (opened a) = ⊥
LeavesShut life (closed a) = LeavesArchive life a
LeavesShut life (doubtful s u) = LeavesEither life s u
LeavesShut life (refused image why) = IsRefused life image why
LeavesShut life unknown = Unit {0}

-- it leaves what stays of the archive once it is closed
abbrev pub LeavesStanding : Life → Standing → Type 0
LeavesStanding life standing = LeavesShut life (shut standing)

-- every image that a crash now may leave has such banks
abbrev pub LeavesBanks : Life → Banks → Type 0
LeavesBanks life b = (image : DiskImage) → MayLeave life.now image → TellsBanks image b

-- so it is of an archive that was closed, and of which nothing is in doubt
abbrev pub LeavesBanksOf : Life → Standing → Banks → Type 0
LeavesBanksOf life (closed a) b = LeavesBanks life b
LeavesBanksOf life standing b = Unit {0}

-- the disk of the scene leaves it
abbrev pub DiskLeaves : Scene → Type 0
DiskLeaves s = LeavesStanding s.life s.archive × LeavesBanksOf s.life (shut s.archive) s.banks

-- the disk is this one, and leaves the scene
abbrev pub LeavesScene : Life → Scene → Type 0
LeavesScene life s = (s.life ≡ life) × DiskLeaves s
