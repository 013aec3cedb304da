-- How a command over a folder ends, by what it was answered of the watched disk.
use Rattle.std.proofs.Common.{◌≡◌, ℕ, ℤ, List, Option, Some, ap, subst, sym, ◌∙◌}
use Rattle.std.specs.Prelude.{codes}
use Rattle.std.specs.Io.KnownBytes.{Appends}
use Rattle.disk_core.specs.Life.{IsQuiet, Life}
use Rattle.host_disk.specs.declared.folder_disk.FolderDisk.{FolderDisk}
use Rattle.host_disk.specs.declared.host_folder.HostFolder.{HostFolder}
use Rattle.host_disk.specs.contracts.host_folder.HostFolderFolder.TheImpl as folders
use Rattle.host_disk.specs.Events.{Given}
use Rattle.host_disk.specs.HostDisk.{host_life}
use Rattle.host_disk.specs.Replay.{life_from}
use Rattle.archive_commands.specs.declared.commands.Stop.{Stop}
use Rattle.archive_commands.specs.declared.commands.Stop.TheVariants as stops
use Rattle.archive_commands.specs.declared.reports.Verdict.{Verdict}
use Rattle.archive_commands.specs.declared.reports.Verdict.TheVariants as verdicts
use Rattle.archive_commands.specs.declared.watched.Watched.{Watched}
use Rattle.tool_core.specs.Archives.{HasCompacted}
use Rattle.archive_commands.specs.Commands.{FailsToCompact, FailsToCreate, FailsToList, FailsToVerify, HasListed, HasVerifiedOpened, IsCreated}
use Rattle.folder_commands.specs.declared.status.Ending.{Ending}
use Rattle.folder_commands.specs.declared.status.Ending.TheVariants.{Done}
use Rattle.folder_commands.specs.Folders.{CompactsFolder, FolderEndsAs, ListsFolder, MakesArchive, VerifiesFolder, ending_by}
use Rattle.folder_commands.specs.Status.{ending_of}

-- the disk of a folder
abbrev pub FolderAsDisk : Type 0
FolderAsDisk = FolderDisk HostFolder folders.ghosts

-- a watched disk of a folder begins with its files
pub begins_watched : {V : Type 0} (given : Given) (disk : FolderAsDisk) (watched : Watched FolderAsDisk V) → host_life disk ≡ life_from given → watched.disk ≡ disk → host_life watched.disk ≡ life_from given
begins_watched given disk watched begins is = ap host_life is ∙ begins

-- ---- what it leaves

module _ (IsDone HasFound : Life → Type 0) (IsStopped : Life → Stop → Type 0) (contents written : Option (List ℕ)) (left : Option Life) (new : Life) (is : left ≡ Some new) where
  pub ends_done : IsDone new → FolderEndsAs IsDone HasFound IsStopped contents written left Done
  ends_done h = subst (λ l. FolderEndsAs IsDone HasFound IsStopped contents written l Done) (sym is) h

  stopped_so : (why : Stop) → IsStopped new why → FolderEndsAs IsDone HasFound IsStopped contents written (Some new) (ending_of why)
  stopped_so (stops.Refused refusal) h = h
  stopped_so (stops.Cut end) h = h

  pub ends_stopped : (why : Stop) (ending : Ending) → ending ≡ ending_of why → IsStopped new why → FolderEndsAs IsDone HasFound IsStopped contents written left ending
  ends_stopped why ending so h =
      subst (λ l. FolderEndsAs IsDone HasFound IsStopped contents written l ending) (sym is) (subst (FolderEndsAs IsDone HasFound IsStopped contents written (Some new)) (sym so) (stopped_so why h))

-- by what was found
module _ (IsFound : Life → Verdict → Type 0) (IsStopped : Life → Stop → Type 0) (contents written : Option (List ℕ)) (left : Option Life) (new : Life) (is : left ≡ Some new) where
  judged_so : (verdict : Verdict) → IsFound new verdict → FolderEndsAs (λ n. IsFound n verdicts.Whole) (λ n. IsFound n verdicts.Refused) IsStopped contents written (Some new) (ending_by verdict)
  judged_so verdicts.Whole h = h
  judged_so verdicts.Refused h = h

  pub ends_judged : (verdict : Verdict) (ending : Ending) → ending ≡ ending_by verdict → IsFound new verdict → FolderEndsAs (λ n. IsFound n verdicts.Whole) (λ n. IsFound n verdicts.Refused) IsStopped contents written left ending
  ends_judged verdict ending so h =
      subst (λ l. FolderEndsAs (λ n. IsFound n verdicts.Whole) (λ n. IsFound n verdicts.Refused) IsStopped contents written l ending) (sym is)
      (subst (FolderEndsAs (λ n. IsFound n verdicts.Whole) (λ n. IsFound n verdicts.Refused) IsStopped contents written (Some new)) (sym so) (judged_so verdict h))

-- ---- the commands

module _ (given : Given) (contents written : Option (List ℕ)) (left : Option Life) (new : Life) (is : left ≡ Some new) (old : Life) where
  module _ (begins : old ≡ life_from given) where
    pub list_done : HasListed old new contents written → ListsFolder given contents written left Done
    list_done h =
        ends_done (λ n. HasListed (life_from given) n contents written) (λ n. ⊥) (λ n why. FailsToList (life_from given) n why contents written) contents written left new is
        (subst (λ l. HasListed l new contents written) begins h)

    pub list_stopped : (why : Stop) (ending : Ending) → ending ≡ ending_of why → FailsToList old new why contents written → ListsFolder given contents written left ending
    list_stopped why ending so h =
        ends_stopped (λ n. HasListed (life_from given) n contents written) (λ n. ⊥) (λ n why. FailsToList (life_from given) n why contents written) contents written left new is
        why ending so (subst (λ l. FailsToList l new why contents written) begins h)

    pub compact_done : HasCompacted old new → Appends contents written (codes "compacted\n") → CompactsFolder given contents written left Done
    compact_done h told =
        ends_done (λ n. HasCompacted (life_from given) n × Appends contents written (codes "compacted\n")) (λ n. ⊥) (λ n why. FailsToCompact (life_from given) n why contents written) contents written left new is
        (subst (λ l. HasCompacted l new) begins h, told)

    pub compact_stopped : (why : Stop) (ending : Ending) → ending ≡ ending_of why → FailsToCompact old new why contents written → CompactsFolder given contents written left ending
    compact_stopped why ending so h =
        ends_stopped (λ n. HasCompacted (life_from given) n × Appends contents written (codes "compacted\n")) (λ n. ⊥) (λ n why. FailsToCompact (life_from given) n why contents written) contents written left new is
        why ending so (subst (λ l. FailsToCompact l new why contents written) begins h)

    -- with a disk there is no other ending of `create`
    made_so : (limit : ℕ) (ending : Ending) → FolderEndsAs (λ n. IsCreated limit (life_from given) n × Appends contents written (codes "created\n")) (λ n. ⊥) (λ n why. FailsToCreate limit (life_from given) n why contents written) contents written left ending → MakesArchive given limit contents written left ending
    made_so limit ending h =
        subst (λ l. MakesArchive given limit contents written l ending) (sym is)
        (subst (λ l. FolderEndsAs (λ n. IsCreated limit (life_from given) n × Appends contents written (codes "created\n")) (λ n. ⊥) (λ n why. FailsToCreate limit (life_from given) n why contents written) contents written l ending) is h)

    pub create_done : (limit : ℕ) → IsCreated limit old new → Appends contents written (codes "created\n") → MakesArchive given limit contents written left Done
    create_done limit h told =
        made_so limit Done
        (ends_done (λ n. IsCreated limit (life_from given) n × Appends contents written (codes "created\n")) (λ n. ⊥) (λ n why. FailsToCreate limit (life_from given) n why contents written) contents written left new is
        (subst (λ l. IsCreated limit l new) begins h, told))

    pub create_stopped : (limit : ℕ) (why : Stop) (ending : Ending) → ending ≡ ending_of why → FailsToCreate limit old new why contents written → MakesArchive given limit contents written left ending
    create_stopped limit why ending so h =
        made_so limit ending
        (ends_stopped (λ n. IsCreated limit (life_from given) n × Appends contents written (codes "created\n")) (λ n. ⊥) (λ n why. FailsToCreate limit (life_from given) n why contents written) contents written left new is
        why ending so (subst (λ l. FailsToCreate limit l new why contents written) begins h))

  module _ (quiet : IsQuiet (life_from given) old) where
    pub verify_done : (asked : Option ℤ) (verdict : Verdict) (ending : Ending) → ending ≡ ending_by verdict → HasVerifiedOpened asked old new contents written verdict → VerifiesFolder given asked contents written left ending
    verify_done asked verdict ending so h =
        ends_judged (λ n v. (o : Life) × IsQuiet (life_from given) o × HasVerifiedOpened asked o n contents written v) (λ n why. (o : Life) × IsQuiet (life_from given) o × FailsToVerify asked o n why contents written) contents written left new is
        verdict ending so (old, quiet, h)

    pub verify_stopped : (asked : Option ℤ) (why : Stop) (ending : Ending) → ending ≡ ending_of why → FailsToVerify asked old new why contents written → VerifiesFolder given asked contents written left ending
    verify_stopped asked why ending so h =
        ends_stopped (λ n. (o : Life) × IsQuiet (life_from given) o × HasVerifiedOpened asked o n contents written verdicts.Whole) (λ n. (o : Life) × IsQuiet (life_from given) o × HasVerifiedOpened asked o n contents written verdicts.Refused) (λ n why. (o : Life) × IsQuiet (life_from given) o × FailsToVerify asked o n why contents written) contents written left new is
        why ending so (old, quiet, h)
