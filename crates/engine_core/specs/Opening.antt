-- What syncing an archive's files does, before they are read: docs/STORAGE.md, "Opening".
use Rattle.std.specs.Prelude.{◌≡◌, ◌≢◌, ◌⊎◌, ◌+◌, ◌<◌, ◌≤◌, ℕ, None, IsErrOf, IsSome, IsTrue, OnOk, Result}
use Rattle.frame_core.specs.declared.refusal.Refusal.{Refusal}
use Rattle.frame_core.specs.declared.refusal.Refusal.TheVariants.{BadParameter, DeviceFault, NoMemory}
use Rattle.disk_core.specs.declared.file_id.FileId.{FileId}
use Rattle.disk_core.specs.declared.file_id.FileId.TheVariants.{BankA, BankB}
use Rattle.disk_core.specs.DiskImage.{MayLeave, durable, reads}
use Rattle.disk_core.specs.Life.{HasFailed, IsQuiet, Life, LeavesOnly, moment}
use Rattle.catalogue_log.specs.Banks.{HasClosedGate}
use Rattle.catalogue_log.specs.Catalogue.{RefusesCatalogue}

-- each file is as it was, or on the disk as it reads, and no crash leaves what it might not have left before
pub record SyncsOnly (old new : Life) : Type 0 where
  pub each : (file : FileId) → (new.now file ≡ old.now file) ⊎ (new.now file ≡ durable (reads old.now file))
  pub any_moment : LeavesOnly old new (MayLeave old.now)
  pub obeyed : IsTrue new.obeys → IsTrue old.obeys
  pub faults : old.faults ≤ new.faults

-- each segment file is on the disk as it read
abbrev pub AreOnDisk : Life → Life → Type 0
AreOnDisk old new = (file : FileId) → file ≢ BankA → file ≢ BankB → IsSome (reads old.now file) → new.now file ≡ durable (reads old.now file)

-- each file reads as before, and no crash leaves what it might not have left before
pub record ReadsAsBefore (old new : Life) : Type 0 where
  pub same : (file : FileId) → reads new.now file ≡ reads old.now file
  pub any_moment : LeavesOnly old new (MayLeave old.now)
  pub obeyed : IsTrue new.obeys → IsTrue old.obeys
  pub faults : old.faults ≤ new.faults

-- An archive's files, which are so many, were synced, and its catalogue read: each file reads as before, by at most two calls
-- more than files. Where that was done each segment file is on the disk as it read; and a fault has its cause.
pub record SyncsFiles {T : Type 0} (old new : Life) (count : ℕ) (result : Result T Refusal) : Type 0 where
  pub before : ReadsAsBefore old new
  pub synced : OnOk result (IsTrue new.obeys → AreOnDisk old new)
  pub calls : moment new ≤ moment old + count + 2
  pub cause : IsErrOf result DeviceFault → HasFailed old new

-- An archive is made, or fails to be: no file but the banks has changed, by at most six calls that change something.
pub record MakesBanks (old new : Life) : Type 0 where
  pub obeyed : IsTrue new.obeys → IsTrue old.obeys
  pub faults : old.faults ≤ new.faults
  pub others : (file : FileId) → file ≢ BankA → file ≢ BankB → new.now file ≡ old.now file
  pub calls : moment new ≤ moment old + 6

-- no archive is made: the history limit is out of its range, or a file is there; a fault of the listing, or after it where no
-- file was, and then the banks alone may have changed; or want of memory for the listing
abbrev pub RefusesNew : Life → Life → ℕ → Refusal → Type 0
RefusesNew old new limit BadParameter =
    IsQuiet old new × ((limit < 1) ⊎ (16777216 < limit) ⊎ (IsTrue new.obeys → (file : FileId) × IsSome (reads old.now file)))
RefusesNew old new limit DeviceFault = HasFailed old new × (IsQuiet old new ⊎ ((IsTrue new.obeys → (file : FileId) → reads old.now file ≡ None) × MakesBanks old new))
RefusesNew old new limit NoMemory = IsQuiet old new
RefusesNew old new limit _ = ⊥

-- an archive was made where there was none, in the banks alone, and bank B holds a closed gate
pub record IsMadeIn (old new : Life) (limit : ℕ) : Type 0 where
  pub some : 1 ≤ limit
  pub most : limit ≤ 16777216
  pub empty : IsTrue new.obeys → (file : FileId) → reads old.now file ≡ None
  pub spare : HasClosedGate new.now BankB
  pub banks : MakesBanks old new

-- why a disk is not opened, whatever it holds: a device fault has its cause; and where it obeys, its catalogue is refused so.
-- Refused by anything but a fault each file reads as before.
pub record RefusesOpening (old new : Life) (refusal : Refusal) : Type 0 where
  pub cause : refusal ≡ DeviceFault → HasFailed old new
  pub catalogue : IsTrue new.obeys → RefusesCatalogue (reads old.now) refusal
  pub kept : (refusal ≡ DeviceFault) ⊎ ReadsAsBefore old new
