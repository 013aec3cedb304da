-- The catalogue of a closed archive written anew: docs/STORAGE.md, "Compaction".
use Rattle.std.specs.Prelude.{◌≡◌, ◌≢◌, ◌⊎◌, ◌+◌, ◌≤◌, IfErr, IsErrOf, IsTrue, List, OnOk, Result}
use Rattle.frame_core.specs.declared.refusal.Refusal.{Refusal}
use Rattle.frame_core.specs.declared.refusal.Refusal.TheVariants.{DeviceFault}
use Rattle.disk_core.specs.declared.file_id.FileId.{FileId}
use Rattle.disk_core.specs.declared.file_id.FileId.TheVariants.{BankA, BankB}
use Rattle.disk_core.specs.DiskImage.{DiskImage, MayLeave, reads}
use Rattle.disk_core.specs.Life.{HasFailed, LeavesOnly, Life, moment}
use Rattle.archive_model.specs.Register.{RegisterState}
use Rattle.archive_model.specs.State.{State}
use Rattle.archive_model.specs.declared.version.BankVersion.{BankVersion}
use Rattle.archive_model.specs.declared.version.BankVersion.TheVariants.{Two}
use Rattle.catalogue_entries.specs.declared.entry.Entry.{Entry}
use Rattle.catalogue_log.specs.declared.bank.BankHeader.{BankHeader}
use Rattle.catalogue_log.specs.Catalogue.{IsCatalogue}
use Rattle.catalogue_log.specs.Compacting.{HasRegister, IsCompacted, LeavesRegister, RefusesCompaction}
use Rattle.engine_core.specs.Calls.{LeavesAlone}
use Rattle.engine_core.specs.Engine.{DiskGoesOn}
use Rattle.engine_core.specs.Opening.{ReadsAsBefore}
use Rattle.engine_core.specs.Recovery.{Recovers}

-- the image's catalogue is in a bank of this version
pub record IsOfVersion (version : BankVersion) (image : DiskImage) : Type 0 where
  pub header : BankHeader
  pub entries : List Entry
  pub catalogue : IsCatalogue image header entries
  pub is : header.version ≡ version

-- What a compaction did to a disk.
pub record Compacts (old new : Life) (result : Result (Unit {0}) Refusal) : Type 0 where
  -- Where each crash may leave one state, so it does at every moment.
  pub any_moment : (s : State) → LeavesAlone old s → IsTrue new.obeys → LeavesOnly old new (λ image. Recovers image s)
  -- Where each crash may leave a catalogue that makes these recordings, so it does, whatever the segment files hold.
  pub any_register : (g : RegisterState) → LeavesRegister old.now g → IsTrue new.obeys → LeavesOnly old new (HasRegister old.now g)
  -- Answered, each crash leaves a state that every crash might leave before, in a bank of version 2.
  pub migrated : OnOk result (IsTrue new.obeys → (s : State) → LeavesAlone old s → (image : DiskImage) → MayLeave new.now image →
      Recovers image s × IsOfVersion Two image)
  -- Answered, the bank in use has the next epoch, and holds the next id and the recordings alone.
  pub compacted : OnOk result (IsTrue new.obeys → IsCompacted old new)
  pub refused : IfErr result (λ refusal. IsTrue new.obeys → RefusesCompaction (reads old.now) refusal)
  -- Refused by anything but a fault, each file reads as before.
  pub kept : IfErr result (λ refusal. (refusal ≡ DeviceFault) ⊎ ReadsAsBefore old new)
  pub cause : IsErrOf result DeviceFault → HasFailed old new
  pub segments : (file : FileId) → file ≢ BankA → file ≢ BankB → new.now file ≡ old.now file
  pub goes_on : DiskGoesOn old new
  pub calls : moment new ≤ moment old + 9
