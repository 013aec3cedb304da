-- What a command does over a folder, whatever files that holds, and a writer, and how it ends: docs/CONTROL.md, "The program".
use Rattle.std.specs.Prelude.{◌≡◌, ◌⊎◌, ℕ, ℤ, Bool, List, Option, None, Some, Result, Ok, Err, IsTrue, codes}
use Rattle.std.specs.Io.KnownBytes.{Appends}
use Rattle.frame_core.specs.declared.refusal.Refusal.TheVariants.{DeviceFault}
use Rattle.disk_core.specs.Life.{IsQuiet, Life}
use Rattle.catalogue_log.specs.LogState.{Banks}
use Rattle.host_disk.specs.declared.open_fault.OpenFault.{OpenFault}
use Rattle.host_disk.specs.Events.{Given}
use Rattle.host_disk.specs.Replay.{life_from}
use Rattle.archive_commands.specs.declared.commands.Stop.{Stop}
use Rattle.archive_commands.specs.declared.commands.Stop.TheVariants as stops
use Rattle.tool_core.specs.declared.fault.EarlyEnd.{EarlyEnd}
use Rattle.archive_commands.specs.declared.frames.Listing.TheVariants as listings
use Rattle.archive_commands.specs.declared.reports.Verdict.{Verdict}
use Rattle.archive_commands.specs.declared.reports.Verdict.TheVariants as verdicts
use Rattle.tool_core.specs.Answering.{EndsEarly}
use Rattle.tool_core.specs.Archives.{HasCompacted, IsUnopened}
use Rattle.archive_commands.specs.Commands.{FailsToCompact, FailsToCreate, FailsToList, FailsToVerify, HasListed, HasVerifiedOpened, IsCreated}
use Rattle.archive_commands.specs.FrameLines.{IsListing, Lists, ListsSome}
use Rattle.tool_core.specs.CheckpointedScript.{IsScriptOfFirstWhere, IsScriptWhere, IsTranscriptOfFirstWhere, IsTranscriptWhere}
use Rattle.tool_core.specs.Script.{Begins}
use Rattle.tool_core.specs.ScriptLines.{Standing}
use Rattle.tool_core.specs.Transcript.{WritesText}
use Rattle.folder_commands.specs.declared.exit.Exit.{Exit}
use Rattle.folder_commands.specs.declared.sound_disk.SoundDisk.{SoundDisk}
use Rattle.folder_commands.specs.declared.status.Ending.{Ending}
use Rattle.folder_commands.specs.declared.status.Ending.TheVariants.{Done, Cut, Refused, Unopened, FoundDamage}
use Rattle.folder_commands.specs.SoundDisk.{IsFirstLife, sound_life}

-- ---- endings

-- how a command ended that answers so
abbrev pub ending_in : Result (Unit {0}) Exit → Ending
ending_in (Ok done) = Done
ending_in (Err exit) = exit.ending

-- how a command ends that came to a verdict
abbrev pub ending_by : Verdict → Ending
ending_by verdicts.Whole = Done
ending_by verdicts.Refused = FoundDamage

-- it ended because its folder was not opened
abbrev pub IsUnopenedFolder : Ending → Type 0
IsUnopenedFolder ending = (fault : OpenFault) × (ending ≡ Unopened fault)

-- How a command over a folder ends: done; by damage that it found and told; or stopped. Each is said of the life of its folder up
-- to its closing. Or the folder was not opened, and then nothing is left and nothing is written.
module _ (IsDone HasFound : Life → Type 0) (IsStopped : Life → Stop → Type 0) (contents written : Option (List ℕ)) where
  abbrev pub FolderEndsAs : Option Life → Ending → Type 0
  FolderEndsAs (Some new) Done = IsDone new
  FolderEndsAs (Some new) FoundDamage = HasFound new
  FolderEndsAs (Some new) (Refused refusal) = IsStopped new (stops.Refused refusal)
  FolderEndsAs (Some new) (Cut end) = IsStopped new (stops.Cut end)
  FolderEndsAs None (Unopened fault) = written ≡ contents
  FolderEndsAs left ending = ⊥

module _ (given : Given) where
  -- ---- an archive in a folder

  -- `list`: the archive of these files was opened, and its recordings are written
  abbrev pub ListsFolder : Option (List ℕ) → Option (List ℕ) → Option Life → Ending → Type 0
  ListsFolder contents written = FolderEndsAs
      (λ new. HasListed (life_from given) new contents written)
      (λ new. ⊥)
      (λ new why. FailsToList (life_from given) new why contents written)
      contents written

  -- `verify`: behind at most a listing of its files each of its recordings was verified, or the one that was asked for, and the
  -- answers are written; damage is found where one is no reply
  abbrev pub VerifiesFolder : Option ℤ → Option (List ℕ) → Option (List ℕ) → Option Life → Ending → Type 0
  VerifiesFolder asked contents written = FolderEndsAs
      (λ new. (old : Life) × IsQuiet (life_from given) old × HasVerifiedOpened asked old new contents written verdicts.Whole)
      (λ new. (old : Life) × IsQuiet (life_from given) old × HasVerifiedOpened asked old new contents written verdicts.Refused)
      (λ new why. (old : Life) × IsQuiet (life_from given) old × FailsToVerify asked old new why contents written)
      contents written

  -- `create`: an archive without recordings was made, with this limit of its history, or was not; or the folder itself was not,
  -- and then nothing is left and nothing is written
  abbrev pub MakesArchive : ℕ → Option (List ℕ) → Option (List ℕ) → Option Life → Ending → Type 0
  MakesArchive limit contents written None (Refused DeviceFault) = written ≡ contents
  MakesArchive limit contents written left ending = FolderEndsAs
      (λ new. IsCreated limit (life_from given) new × Appends contents written (codes "created\n"))
      (λ new. ⊥)
      (λ new why. FailsToCreate limit (life_from given) new why contents written)
      contents written left ending

  -- `compact`: the archive was opened, closed, and its catalogue written anew
  abbrev pub CompactsFolder : Option (List ℕ) → Option (List ℕ) → Option Life → Ending → Type 0
  CompactsFolder contents written = FolderEndsAs
      (λ new. HasCompacted (life_from given) new × Appends contents written (codes "compacted\n"))
      (λ new. ⊥)
      (λ new why. FailsToCompact (life_from given) new why contents written)
      contents written

-- ---- scripts

-- with checkpoints or without
module _ (checkpoints : Bool) (old : Life) (input contents written : Option (List ℕ)) where
  -- the lines of the input were answered over the disk, whatever it did, and exactly where it obeys the crash model
  pub record HasRun (new : Life) : Type 0 where
    pub whole : WritesText input contents written (IsScriptWhere checkpoints old new)
    pub kept : (first : Standing) (banks : Banks) → Begins old first banks → IsTrue new.obeys → WritesText input contents written (IsTranscriptWhere checkpoints first banks old new)

  -- the first of them were, or the archive was not opened
  pub record HasRunFirst (new : Life) (end : EarlyEnd) : Type 0 where
    pub early : EndsEarly end (IsScriptOfFirstWhere checkpoints old new) input contents written ⊎ IsUnopened old new contents written end
    pub kept : (first : Standing) (banks : Banks) → Begins old first banks → IsTrue new.obeys →
        EndsEarly end (IsTranscriptOfFirstWhere checkpoints first banks old new) input contents written ⊎ IsUnopened old new contents written end

  -- how a script over a disk ends: with the input's lines, or early
  abbrev pub RunsOver : Life → Ending → Type 0
  RunsOver new Done = HasRun new
  RunsOver new (Cut end) = HasRunFirst new end
  RunsOver new ending = ⊥

-- `run` over the archive of a folder with these files; or that was not opened, and then nothing is left and nothing is written
abbrev pub RunsFolder : Bool → Given → Option (List ℕ) → Option (List ℕ) → Option (List ℕ) → Option Life → Ending → Type 0
RunsFolder checkpoints given input contents written (Some new) ending = RunsOver checkpoints (life_from given) input contents written new ending
RunsFolder checkpoints given input contents written None (Unopened fault) = written ≡ contents
RunsFolder checkpoints given input contents written None ending = ⊥

-- `run` over an archive in memory, on a disk that had no file, and of which no call is made to fail; this is the disk at the end
abbrev pub RunsOnDisk : Bool → SoundDisk → Option (List ℕ) → Option (List ℕ) → Option (List ℕ) → Ending → Type 0
RunsOnDisk checkpoints disk input contents written ending =
    (first : Life) × IsFirstLife first × RunsOver checkpoints first input contents written (sound_life disk) ending

-- the same, whichever disk that is
pub record RunsInMemory (checkpoints : Bool) (input contents written : Option (List ℕ)) (ending : Ending) : Type 0 where
  pub disk : SoundDisk
  pub runs : RunsOnDisk checkpoints disk input contents written ending

-- ---- files

-- the frames of a file with these bytes are listed
abbrev pub ListsFrames : Option (List ℕ) → Option (List ℕ) → Option (List ℕ) → Ending → Type 0
ListsFrames file contents written Done = Lists file contents written (IsListing listings.Whole)
ListsFrames file contents written FoundDamage = Lists file contents written (IsListing listings.Damaged)
ListsFrames file contents written (Cut end) = ListsSome end file contents written
ListsFrames file contents written ending = ⊥

-- `frames`: those of a file are, whose bytes nobody knows; or it was not opened, and nothing is written
abbrev pub ListsFile : Option (List ℕ) → Option (List ℕ) → Ending → Type 0
ListsFile contents written (Refused DeviceFault) = written ≡ contents
ListsFile contents written ending = ListsFrames None contents written ending
