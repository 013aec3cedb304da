-- What an operation on the files of an archive did: docs/STORAGE.md, "Recovery".
use Rattle.std.specs.Prelude.{◌≡◌, ◌≢◌, ◌⊎◌, ◌+◌, ◌<◌, ◌≤◌, ℕ, false, IfErr, IsErrOf, IsTrue, List, ◌∷◌, map, OnOk, Result, Ok, Err, if◌then◌else◌}
use Rattle.frame_core.specs.declared.refusal.Refusal.{Refusal}
use Rattle.frame_core.specs.declared.refusal.Refusal.TheVariants.{DeviceFault, NoMemory}
use Rattle.disk_core.specs.declared.file_id.FileId.{FileId}
use Rattle.disk_core.specs.declared.file_id.FileId.TheVariants.{BankA, BankB}
use Rattle.disk_core.specs.DiskImage.{Files, reads}
use Rattle.disk_core.specs.Life.{HasFailed, Life, LeavesOnly, moment}
use Rattle.segment_store.specs.declared.keep.Keep.{Keep}
use Rattle.segment_store.specs.declared.keep.Keep.TheVariants as keeps
use Rattle.disk_core.specs.Standing.{KeepsBelow}
use Rattle.segment_store.specs.Stale.{is_stale}
use Rattle.segment_store.specs.Stored.{ChangesFile}
use Rattle.archive_model.specs.declared.registration.Registration.{Registration}
use Rattle.archive_model.specs.Keyed.{Each}
use Rattle.archive_model.specs.Register as register
use Rattle.archive_model.specs.Register.{RegisterState}
use Rattle.archive_model.specs.State.{Recording, State, is_active, recorded_position, register_of}
use Rattle.archive_model.specs.WellFormed.{IsWell}
use Rattle.catalogue_entries.specs.declared.entry.Entry.{Entry}
use Rattle.catalogue_entries.specs.Fold.{admits, after_entry, counts}
use Rattle.catalogue_log.specs.LogState.{LogState}
use Rattle.engine_core.specs.Recovery.{IsDurable, IsEither, IsSound, RecoversTo}
use Rattle.recording_reads.specs.Recording.{layout_of}
use Rattle.engine_core.specs.Catalogued.{KeepsBanks}
use Rattle.engine_core.specs.Engine.{DiskGoesOn, KeepsBank}

-- An entry may follow those of a state, and makes of all but the frames what another state has.
pub record Enters (s u : State) (e : Entry) : Type 0 where
  pub admitted : IsTrue (admits (register_of s) e)
  pub makes : after_entry (register_of s) e ≡ register_of u
  pub well : IsWell u

-- An entry leads from a state to another, whose frames are durable.
pub record EntryLeads (files : Files) (s u : State) (e : Entry) : Type 0 where
  pub enters : Enters s u e
  pub frames : Each (IsDurable files) u.recordings

-- no segment file reads otherwise than before
pub record KeepsSegments (old new : Life) : Type 0 where
  pub same : (file : FileId) → file ≢ BankA → file ≢ BankB → reads new.now file ≡ reads old.now file
  pub obeyed : IsTrue new.obeys → IsTrue old.obeys
  pub faults : old.faults ≤ new.faults

-- the log has room for an entry more
abbrev pub HasEntryRoom : LogState → Entry → Type 0
HasEntryRoom log e = IsTrue (counts e) → log.counted < log.header.history_limit

-- what adding an entry did to the disk's count of faults and to the log, and how it may have been refused
pub record AddsEntry (old new : Life) (log new_log : LogState) (e : Entry) (result : Result (Unit {0}) Refusal) : Type 0 where
  pub goes_on : DiskGoesOn old new
  pub cause : IsErrOf result DeviceFault → HasFailed old new
  pub bank : KeepsBank log new_log
  pub counted : OnOk result (new_log.counted ≡ log.counted + (if counts e then 1 else 0))
  pub works : OnOk result (new_log.is_broken ≡ log.is_broken)
  pub kept : IfErr result (λ refusal. refusal ≢ DeviceFault → new_log ≡ log)
  pub outside : IfErr result (λ refusal. (refusal ≡ DeviceFault) ⊎ (refusal ≡ NoMemory))

-- the archive is sound for this state, and no crash leaves another
abbrev pub StaysSound : Life → Life → LogState → State → Type 0
StaysSound old new log s = IsSound new.now log s × LeavesOnly old new (RecoversTo (λ x. x ≡ s))

-- after success the archive is sound for the new state; where memory was refused it stays with the old one
abbrev pub RestsAfter : Result (Unit {0}) Refusal → Life → Life → LogState → State → State → Type 0
RestsAfter (Ok done) old new log s u = IsSound new.now log u
RestsAfter (Err NoMemory) old new log s u = StaysSound old new log s
RestsAfter (Err DeviceFault) old new log s u = Unit {0}
RestsAfter (Err _) old new log s u = ⊥

-- what was done to the files of an archive whose state was s, and which was to become u
pub record Moves (old new : Life) (log : LogState) (s u : State) (result : Result (Unit {0}) Refusal) : Type 0 where
  -- a crash at any moment of it leaves the one or the other
  pub any_moment : LeavesOnly old new (RecoversTo (IsEither s u))
  pub rests : RestsAfter result old new log s u
  -- reading goes on over the old state, also after a fault
  pub frames : Each (IsDurable new.now) s.recordings

-- what says which files of a recording are kept, and which of a state
abbrev pub keep_of : Recording → Keep
keep_of r = keeps.Recording (layout_of r.descriptor) (recorded_position r) (is_active r)

abbrev pub keeps_of : State → List Keep
keeps_of s = keeps.Below s.next ∷ map keep_of s.recordings

-- the same, by what the register has
abbrev pub registered_keep : Registration → Keep
registered_keep g = keeps.Recording (layout_of g.descriptor) g.recorded (register.is_active g)

abbrev pub registered_keeps : RegisterState → List Keep
registered_keeps g = keeps.Below g.next ∷ map registered_keep g.recordings

-- no file has changed that is not stale
pub record SparesKept (keeps : List Keep) (old new : Life) : Type 0 where
  pub same : (file : FileId) → is_stale keeps file ≡ false → new.now file ≡ old.now file
  pub obeyed : IsTrue new.obeys → IsTrue old.obeys
  pub faults : old.faults ≤ new.faults

-- ---- which files are touched

-- no file but those that have P has changed, by at most so many calls that change something
pub record ChangesThese (P : FileId → Type 0) (most : ℕ) (old new : Life) : Type 0 where
  pub others : (file : FileId) → (P file → ⊥) → new.now file ≡ old.now file
  pub calls : moment new ≤ moment old + most

-- A segment was synced and an entry added: but these two files none has changed, and each segment file reads as before.
pub record SettlesAt (old new : Life) (segment bank : FileId) : Type 0 where
  pub changes : ChangesThese (λ file. (file ≡ segment) ⊎ (file ≡ bank)) 5 old new
  pub segments : (file : FileId) → file ≢ BankA → file ≢ BankB → reads new.now file ≡ reads old.now file

-- A block was written at an offset of a segment file, or was not: below it nothing became unsynced, and no crash leaves
-- other banks than before.
pub record WritesAt (segment : FileId) (offset : ℕ) (old new : Life) : Type 0 where
  pub changes : ChangesFile segment old new
  pub calls : moment new ≤ moment old + 1
  pub below : KeepsBelow offset (old.now segment) (new.now segment)
  pub banks : KeepsBanks old new
