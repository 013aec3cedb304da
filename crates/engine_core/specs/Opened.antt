-- Opening an archive after a crash: docs/STORAGE.md, "Recovery".
use Rattle.std.specs.Prelude.{◌≡◌, ◌≢◌, ◌⊎◌, ◌+◌, ◌<◌, ◌≤◌, ℕ, length, ℤ, pos, true, IsSome, IsTrue, List, Option, None, Some, count_by}
use Rattle.frame_core.specs.declared.refusal.Refusal.{Refusal}
use Rattle.frame_core.specs.declared.refusal.Refusal.TheVariants.{BadParameter, DeviceFault, NoMemory}
use Rattle.disk_core.specs.declared.file_id.FileId.{FileId}
use Rattle.disk_core.specs.declared.file_id.FileId.TheVariants.{BankA, BankB}
use Rattle.disk_core.specs.DiskImage.{DiskImage, MayLeave, reads}
use Rattle.disk_core.specs.FileNames.{AreFilesWith}
use Rattle.disk_core.specs.Life.{IsQuiet, Life, LeavesOnly, moment}
use Rattle.archive_model.specs.State.{State, active_count}
use Rattle.archive_model.specs.declared.command.Command.TheVariants.{Restart}
use Rattle.archive_model.specs.Commands.{after}
use Rattle.archive_model.specs.Register as register
use Rattle.archive_model.specs.Register.{all_stopped, no_recordings}
use Rattle.catalogue_log.specs.declared.bank.BankHeader.{BankHeader}
use Rattle.catalogue_entries.specs.declared.entry.Entry.{Entry}
use Rattle.catalogue_log.specs.Banks.{bank_file, other_of}
use Rattle.catalogue_log.specs.Catalogue.{IsCatalogue}
use Rattle.catalogue_entries.specs.Fold.{after_entries, counts}
use Rattle.catalogue_log.specs.LogState.{Banks, TellsBanks, banks_of}
use Rattle.control_core.specs.Desk.{DeskState, opened_desk}
use Rattle.control_core.specs.Exact.{Archive, opened_archive}
use Rattle.engine_core.specs.Catalogued.{LeavesCatalogue, OpensCatalogue}
use Rattle.engine_core.specs.Recovery.{IsEither, Recovers, RecoversTo}
use Rattle.engine_core.specs.Engine.{DiskGoesOn, EngineState, new_archive}
use Rattle.engine_core.specs.Consistent.{IsCrashConsistent, KeepsArchive}
use Rattle.engine_core.specs.Opening.{IsMadeIn, ReadsAsBefore, RefusesNew, RefusesOpening}

-- every image that a crash now may leave recovers to one of two states
abbrev pub LeavesEither : Life → State → State → Type 0
LeavesEither life s u = (image : DiskImage) → MayLeave life.now image → RecoversTo (IsEither s u) image

-- one of two states, or the restart of one of them
abbrev pub IsNear : State → State → State → Type 0
IsNear s u x = IsEither s u x ⊎ ((y : State) × IsEither s u y × (x ≡ after y Restart))

-- nobody calls yet, nothing is written and nothing is in doubt; the history has the catalogue's count and limit, and its version
pub record IsFresh (image : DiskImage) (s : State) (a : Archive) : Type 0 where
  pub header : BankHeader
  pub entries : List Entry
  pub catalogue : IsCatalogue image header entries
  pub is : a ≡ opened_archive s (count_by counts entries) header.history_limit header.version

-- An archive is open: it is the restart of the state that the disk read as, which had so many active recordings, and a
-- crash at any moment of the opening leaves one of the states before it or a restart of one of them.
pub record IsOpened (old : Life) (new : EngineState) (restarted : ℤ) (s u : State) : Type 0 where
  pub read : State
  pub is : IsEither s u read
  pub recovers : Recovers (reads old.now) read
  pub stopped : restarted ≡ pos (active_count read)
  pub archive : Archive
  pub fresh : IsFresh (reads old.now) (after read Restart) archive
  pub desk : new.desk ≡ archive.desk
  pub consistent : IsCrashConsistent new.life new.log archive
  pub any_moment : LeavesOnly old new.life (RecoversTo (IsNear s u))

-- An opening was refused: the disk leaves what it might have left before, or one of these states and its restart.
pub record IsNotOpened (old new : Life) (s u : State) : Type 0 where
  pub now : LeavesEither new s u ⊎ ((x : State) × IsEither s u x × LeavesEither new x (after x Restart))
  pub any_moment : LeavesOnly old new (RecoversTo (IsNear s u))

-- The desk is that of the image's catalogue and a restart, which stopped so many recordings, whatever the segment files
-- hold.
pub record IsDeskOf (image : DiskImage) (desk : DeskState) (restarted : ℤ) : Type 0 where
  pub header : BankHeader
  pub entries : List Entry
  pub catalogue : IsCatalogue image header entries
  pub is : desk ≡ opened_desk (all_stopped (after_entries no_recordings entries)) (count_by counts entries) header.history_limit header.version
  pub stopped : restarted ≡ pos (register.active_count (after_entries no_recordings entries))

-- at most a call that changes something for each file, one for each bank, and four for a restart
pub record OpensBy (old new : Life) : Type 0 where
  pub files : List FileId
  pub are : IsTrue new.obeys → AreFilesWith (λ file. IsSome (reads old.now file)) files
  pub calls : moment new ≤ moment old + length files + 6

-- What `Engine::open` says of a disk that it opens, by stopping so many recordings.
pub record HasOpened (old : Life) (new : EngineState) (stopped : ℤ) : Type 0 where
  pub opened : (s u : State) → LeavesEither old s u → IsTrue new.life.obeys → IsOpened old new stopped s u
  -- no archive is opened without a catalogue
  pub desk : IsTrue new.life.obeys → IsDeskOf (reads old.now) new.desk stopped
  -- what a compaction would ask of the banks is as it was read
  pub banks : IsTrue new.life.obeys → TellsBanks (reads old.now) (banks_of new.log)
  pub goes_on : DiskGoesOn old new.life
  -- only the bank in use may read otherwise
  pub others : (file : FileId) → file ≢ BankA → file ≢ BankB → reads new.life.now file ≡ reads old.now file
  pub other_bank : reads new.life.now (bank_file (other_of new.log.bank)) ≡ reads old.now (bank_file (other_of new.log.bank))
  -- nothing is written where no recording was active
  pub idle : stopped ≡ pos 0 → ReadsAsBefore old new.life
  pub calls : OpensBy old new.life
  -- the catalogue that the disk read as is there at every moment, whatever the segment files hold
  pub catalogue : IsTrue new.life.obeys → (h : BankHeader) (es : List Entry) → IsCatalogue (reads old.now) h es → OpensCatalogue old new stopped h es

-- What it says of a disk that it refuses.
pub record HasNotOpened (old new : Life) (refusal : Refusal) : Type 0 where
  pub whole : (s u : State) → LeavesEither old s u → IsTrue new.obeys → IsNotOpened old new s u × ((refusal ≡ DeviceFault) ⊎ (refusal ≡ NoMemory))
  -- also of a disk that no archive has left
  pub refuses : RefusesOpening old new refusal
  pub goes_on : DiskGoesOn old new
  pub others : (file : FileId) → file ≢ BankA → file ≢ BankB → reads new.now file ≡ reads old.now file
  pub calls : IsQuiet old new ⊎ OpensBy old new
  -- also of a disk that no archive has left
  pub catalogue : IsTrue new.obeys → (h : BankHeader) (es : List Entry) → IsCatalogue (reads old.now) h es → LeavesCatalogue old new h es

-- the banks of a new archive: of epoch 1, and the other may be written
abbrev pub new_banks : Banks
new_banks = record { epoch = 1; spare = true }

-- a file was there, unless the disk does not obey
abbrev pub HadFiles : Life → Life → Type 0
HadFiles old new = IsTrue new.obeys → (file : FileId) × IsSome (reads old.now file)

-- An archive was made where no file was, or one was opened, by stopping so many recordings, where files were.
abbrev pub MadeOrOpened : ℕ → Life → EngineState → Option ℤ → Type 0
MadeOrOpened limit old new None = IsMadeIn old new.life limit × KeepsArchive new (new_archive limit) × DiskGoesOn old new.life × (banks_of new.log ≡ new_banks)
MadeOrOpened limit old new (Some stopped) = HadFiles old new.life × HasOpened old new stopped

-- Neither: the limit of the history is out of its range, and then the disk was asked nothing; no archive was made where no
-- file was, or nothing was listed; or files were there and are not opened.
abbrev pub NeitherMadeNorOpened : ℕ → Life → Life → Refusal → Type 0
NeitherMadeNorOpened limit old new refusal =
    ((refusal ≡ BadParameter) × ((limit < 1) ⊎ (16777216 < limit)) × (new ≡ old))
    ⊎ ((refusal ≢ BadParameter) × RefusesNew old new limit refusal)
    ⊎ (HadFiles old new × HasNotOpened old new refusal)
