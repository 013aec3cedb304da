-- What a script over a disk ends as, and over the watched disk of a folder.
use Rattle.std.proofs.Common.{◌≡◌, ◌⊎◌, ℕ, Bool, IsTrue, List, Option, Some, subst, sym}
use Rattle.std.specs.Prelude.{IfErr, IfOk, Result, Ok, Err}
use Rattle.disk_core.specs.Life.{Life}
use Rattle.catalogue_log.specs.LogState.{Banks}
use Rattle.host_disk.specs.Events.{Given}
use Rattle.host_disk.specs.Replay.{life_from}
use Rattle.tool_core.specs.declared.fault.ScriptFault.{ScriptFault}
use Rattle.tool_core.specs.Answering.{EndsEarly}
use Rattle.tool_core.specs.Archives.{IsUnopened, disk_of, early_end_of}
use Rattle.tool_core.specs.CheckpointedScript.{IsScriptOfFirstWhere, IsScriptWhere, IsTranscriptOfFirstWhere, IsTranscriptWhere}
use Rattle.tool_core.specs.Script.{Begins}
use Rattle.tool_core.specs.ScriptLines.{Standing}
use Rattle.tool_core.specs.Transcript.{WritesText}
use Rattle.folder_commands.specs.declared.status.Ending.{Ending}
use Rattle.folder_commands.specs.Folders.{HasRun, HasRunFirst, RunsFolder, RunsOver}

-- ---- a script, with checkpoints or without, by what it answered of the disk

module _ {D : Type 0} (life : D → Life) (checkpoints : Bool) (old : Life) (input contents written : Option (List ℕ)) where
  pub script_done : (r : Result D (ScriptFault D))
      → IfOk r (λ b. WritesText input contents written (IsScriptWhere checkpoints old (life b)))
      → IfOk r (λ b. (first : Standing) (banks : Banks) → Begins old first banks → IsTrue (life b).obeys → WritesText input contents written (IsTranscriptWhere checkpoints first banks old (life b)))
      → IfOk r (λ b. HasRun checkpoints old input contents written (life b))
  script_done (Ok b) whole kept = record { whole = whole; kept = kept }
  script_done (Err f) whole kept = tt

  pub script_early : (r : Result D (ScriptFault D))
      → IfErr r (λ f. EndsEarly (early_end_of f) (IsScriptOfFirstWhere checkpoints old (life (disk_of f))) input contents written ⊎ IsUnopened old (life (disk_of f)) contents written (early_end_of f))
      → IfErr r (λ f. (first : Standing) (banks : Banks) → Begins old first banks → IsTrue (life (disk_of f)).obeys →
      EndsEarly (early_end_of f) (IsTranscriptOfFirstWhere checkpoints first banks old (life (disk_of f))) input contents written ⊎ IsUnopened old (life (disk_of f)) contents written (early_end_of f))
      → IfErr r (λ f. HasRunFirst checkpoints old input contents written (life (disk_of f)) (early_end_of f))
  script_early (Ok b) early kept = tt
  script_early (Err f) early kept = record { early = early; kept = kept }

-- ---- over a folder

pub run_ends : (checkpoints : Bool) (given : Given) (input contents written : Option (List ℕ)) (left : Option Life) (old new : Life) (last ending : Ending) → old ≡ life_from given → left ≡ Some new → ending ≡ last → RunsOver checkpoints old input contents written new last → RunsFolder checkpoints given input contents written left ending
run_ends checkpoints given input contents written left old new last ending begins is so h =
    subst (λ l. RunsFolder checkpoints given input contents written l ending) (sym is)
    (subst (RunsFolder checkpoints given input contents written (Some new)) (sym so) (subst (λ l. RunsOver checkpoints l input contents written new last) begins h))
