-- What was done to a disk that was only read, and what was seen of it: docs/STORAGE.md, "Looking at an archive".
use Rattle.std.specs.Prelude.{◌≡◌, ◌≤◌, IsTrue}
use Rattle.frame_core.specs.declared.refusal.Refusal.{Refusal}
use Rattle.frame_core.specs.declared.refusal.Refusal.TheVariants.{DeviceFault}
use Rattle.disk_core.specs.declared.file_id.FileId.{FileId}
use Rattle.disk_core.specs.DiskImage.{DiskImage, MayLeave, reads}
use Rattle.disk_core.specs.Life.{HasFailed, LeavesOnly, Life}
use Rattle.archive_view.specs.declared.read_only.ReadOnly.{ReadOnly}
use Rattle.archive_view.specs.ReadLife.{read_life}

-- each file reads as before, and no crash at any moment leaves what it might not have left before
pub record IsOnlyRead (old new : Life) : Type 0 where
  pub same : (file : FileId) → reads new.now file ≡ reads old.now file
  pub any_moment : LeavesOnly old new (MayLeave old.now)
  pub obeyed : IsTrue new.obeys → IsTrue old.obeys

-- the disk inside
abbrev pub disk_of : {D : Type 0} → ReadOnly D → D
disk_of read = read.disk

module _ {D : Type 0} (life : D → Life) where
  -- what the disk shows from outside
  abbrev pub life_of : ReadOnly D → Life
  life_of read = read_life (life read.disk) read.refused

  -- The disk was only read, and this was seen of what it reads as; that is promised where it obeys the crash model.
  pub record Looks (Seen : DiskImage → Type 0) (old new : ReadOnly D) : Type 0 where
    pub inside : IsOnlyRead (life old.disk) (life new.disk)
    pub faults : (life_of old).faults ≤ (life_of new).faults
    pub seen : IsTrue (life new.disk).obeys → Seen (reads (life old.disk).now)

  -- The disk was only read, and a look was refused: a device fault has its cause.
  pub record Refuses (Why : DiskImage → Type 0) (old new : ReadOnly D) (refusal : Refusal) : Type 0 where
    pub look : Looks Why old new
    pub cause : refusal ≡ DeviceFault → HasFailed (life_of old) (life_of new)
