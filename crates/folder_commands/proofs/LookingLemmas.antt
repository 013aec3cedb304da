-- How a command that only looks at a folder ends, by what it was answered of the watched folder.
use Rattle.std.proofs.Common.{◌≡◌, ℕ, ℤ, Bool, List, Option, Some, ap, subst, ◌∙◌}
use Rattle.disk_core.specs.Life.{IsQuiet, Life}
use Rattle.host_disk.specs.Events.{Given}
use Rattle.host_disk.specs.declared.read_folder.ReadFolder.{ReadFolder}
use Rattle.host_disk.specs.ReadFolder.{folder_life}
use Rattle.host_disk.specs.Replay.{life_from}
use Rattle.archive_commands.specs.declared.commands.Stop.{Stop}
use Rattle.archive_commands.specs.declared.reports.Verdict.{Verdict}
use Rattle.archive_commands.specs.declared.reports.Verdict.TheVariants as verdicts
use Rattle.archive_commands.specs.declared.watched.Watched.{Watched}
use Rattle.archive_report.specs.declared.form.Form.{Form}
use Rattle.archive_report.specs.Describing.{FailsToDescribe, HasDescribed}
use Rattle.archive_report.specs.Verifying.{FailsToVerifyViewed, HasVerifiedViewed}
use Rattle.archive_report.specs.Viewing.{FailsToListViewed, HasListedViewed}
use Rattle.folder_commands.specs.declared.status.Ending.{Ending}
use Rattle.folder_commands.specs.declared.status.Ending.TheVariants.{Done}
use Rattle.folder_commands.specs.Folders.{ending_by}
use Rattle.folder_commands.specs.Looking.{DescribesFolder, ListsAsItStands, VerifiesAsItStands, form_of, itself}
use Rattle.folder_commands.specs.Status.{ending_of}
use Rattle.folder_commands.proofs.FolderLemmas.{ends_done, ends_judged, ends_stopped}

-- what a watched folder is to a contract
abbrev pub inside : {V : Type 0} → Watched ReadFolder V → Life
inside watched = folder_life watched.disk

-- a watched folder begins with its files
pub looks_watched : {V : Type 0} (given : Given) (disk : ReadFolder) (watched : Watched ReadFolder V) → folder_life disk ≡ life_from given → watched.disk ≡ disk → folder_life watched.disk ≡ life_from given
looks_watched given disk watched begins is = ap folder_life is ∙ begins

module _ (given : Given) (contents written : Option (List ℕ)) (left : Option Life) (new : Life) (is : left ≡ Some new) (old : Life) where
  module _ (begins : old ≡ life_from given) where
    pub look_listed : HasListedViewed old new contents written → ListsAsItStands given contents written left Done
    look_listed h =
        ends_done (λ n. HasListedViewed (life_from given) n contents written) (λ n. ⊥) (λ n why. FailsToListViewed itself (life_from given) n why contents written) contents written left new is
        (subst (λ l. HasListedViewed l new contents written) begins h)

    pub look_unlisted : (why : Stop) (ending : Ending) → ending ≡ ending_of why → FailsToListViewed itself old new why contents written → ListsAsItStands given contents written left ending
    look_unlisted why ending so h =
        ends_stopped (λ n. HasListedViewed (life_from given) n contents written) (λ n. ⊥) (λ n why. FailsToListViewed itself (life_from given) n why contents written) contents written left new is
        why ending so (subst (λ l. FailsToListViewed itself l new why contents written) begins h)

    pub describe_done : (one : Option ℤ) (json : Bool) (form : Form) → form ≡ form_of json → HasDescribed one old new form contents written → DescribesFolder given one json contents written left Done
    describe_done one json form asked h =
        ends_done (λ n. HasDescribed one (life_from given) n (form_of json) contents written) (λ n. ⊥) (λ n why. FailsToDescribe itself one (life_from given) n why contents written) contents written left new is
        (subst (λ f. HasDescribed one (life_from given) new f contents written) asked (subst (λ l. HasDescribed one l new form contents written) begins h))

    pub describe_stopped : (one : Option ℤ) (json : Bool) (why : Stop) (ending : Ending) → ending ≡ ending_of why → FailsToDescribe itself one old new why contents written → DescribesFolder given one json contents written left ending
    describe_stopped one json why ending so h =
        ends_stopped (λ n. HasDescribed one (life_from given) n (form_of json) contents written) (λ n. ⊥) (λ n why. FailsToDescribe itself one (life_from given) n why contents written) contents written left new is
        why ending so (subst (λ l. FailsToDescribe itself one l new why contents written) begins h)

  module _ (quiet : IsQuiet (life_from given) old) where
    pub look_verified : (one : Option ℤ) (verdict : Verdict) (ending : Ending) → ending ≡ ending_by verdict → HasVerifiedViewed itself one old new contents written verdict → VerifiesAsItStands given one contents written left ending
    look_verified one verdict ending so h =
        ends_judged (λ n v. (o : Life) × IsQuiet (life_from given) o × HasVerifiedViewed itself one o n contents written v) (λ n why. (o : Life) × IsQuiet (life_from given) o × FailsToVerifyViewed itself one o n why contents written) contents written left new is
        verdict ending so (old, quiet, h)

    pub look_unverified : (one : Option ℤ) (why : Stop) (ending : Ending) → ending ≡ ending_of why → FailsToVerifyViewed itself one old new why contents written → VerifiesAsItStands given one contents written left ending
    look_unverified one why ending so h =
        ends_stopped (λ n. (o : Life) × IsQuiet (life_from given) o × HasVerifiedViewed itself one o n contents written verdicts.Whole) (λ n. (o : Life) × IsQuiet (life_from given) o × HasVerifiedViewed itself one o n contents written verdicts.Refused) (λ n why. (o : Life) × IsQuiet (life_from given) o × FailsToVerifyViewed itself one o n why contents written) contents written left new is
        why ending so (old, quiet, h)
