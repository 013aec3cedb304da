-- How `serve` ends if its words are right, by its folder and its server.
use Rattle.std.proofs.Common.{◌≡◌, ◌∙◌, inl, inr, refl, ℤ, Bool, IsTrue, Option, None, Some, sym, subst}
use Rattle.std.specs.Prelude.{IsSomeAnd}
use Rattle.clap.specs.declared.error.ErrorKind.TheVariants.{ValueValidation}
use Rattle.command_line.specs.declared.serving.ServeWords.{ServeWords}
use Rattle.disk_core.specs.Life.{IsQuiet, Life}
use Rattle.host_disk.specs.Events.{Given}
use Rattle.host_disk.specs.Replay.{life_from}
use Rattle.server.specs.declared.options.ServeOptions.{ServeOptions}
use Rattle.folder_commands.specs.declared.status.Ending.{Ending}
use Rattle.folder_commands.specs.declared.status.Ending.TheVariants.{Done, Cut, Refused, Stuck, Hidden, Unopened, FoundDamage, LineRefused, NoneBefore, NoCommand, Failed}
use Rattle.folder_commands.specs.Folders.{IsUnopenedFolder}
use Rattle.folder_commands.specs.Hidden.{MayHideEntries}
use Rattle.folder_commands.specs.Serving.{AreOptions, AreWrong, HasCatalogue, HasNoEnds, IsUnbound, LacksCatalogue, LeavesUncatalogued, ServesFolder, ServesOver}

-- the words are wrong
pub misworded : (given : Given) (words : ServeWords) (looked : Option Life) (ending : Ending) → ending ≡ NoCommand ValueValidation → AreWrong words → ServesFolder given words looked None ending
misworded given words looked ending is wrong = subst (ServesFolder given words looked None) (sym is) (refl, wrong)

module _ (given : Given) (words : ServeWords) (looked : Option Life) (receiver : ℤ) (options : ServeOptions) (asked : AreOptions words receiver options) (named : HasNoEnds words → ⊥) where
  are_right : AreWrong words → ⊥
  are_right (inl ends) = named ends
  are_right (inr (inl bad)) = bad options.window asked.window
  are_right (inr (inr (inl bad))) = bad asked.may_record
  are_right (inr (inr (inr (inl bad)))) = bad options.segment_length asked.segments
  are_right (inr (inr (inr (inr (inl bad))))) = bad options.makes_checkpoints asked.checkpoints
  are_right (inr (inr (inr (inr (inr (inl bad)))))) = bad asked.named
  are_right (inr (inr (inr (inr (inr (inr (inl bad))))))) = bad options.networks asked.networks
  are_right (inr (inr (inr (inr (inr (inr (inr bad))))))) = bad options.send_to asked.sends

  pub not_opened : (ending : Ending) → IsUnopenedFolder ending → ServesFolder given words looked None ending
  not_opened ending (fault, is) = subst (ServesFolder given words looked None) (sym is) are_right

  -- no port is bound, and the folder is left as it was
  pub not_bound : (left : Option Life) (new : Life) (last ending : Ending) → IsUnbound last → new ≡ life_from given → left ≡ Some new → ending ≡ last → ServesFolder given words looked left ending
  not_bound left new last ending unbound is was so =
      subst (λ (l : Option Life). ServesFolder given words looked l ending) (sym was) (subst (ServesFolder given words looked (Some new)) (sym so) (by last unbound))
    where
      by : (e : Ending) → IsUnbound e → ServesFolder given words looked (Some new) e
      by (Failed fault) h = (are_right, is)
      by Done h = absurd h
      by (Cut end) h = absurd h
      by (Refused refusal) h = absurd h
      by (Unopened fault) h = absurd h
      by FoundDamage h = absurd h
      by LineRefused h = absurd h
      by NoneBefore h = absurd h
      by (Stuck stop) h = absurd h
      by Hidden h = absurd h
      by (NoCommand kind) h = absurd h

  -- the folder has no catalogue, which is asked for
  pub not_there : (left : Option Life) (old : Life) (ending : Ending) → old ≡ life_from given → LeavesUncatalogued words.no_create old left ending → ServesFolder given words looked left ending
  not_there left old ending begins h =
      subst (λ (l : Option Life). ServesFolder given words looked l ending) (sym h.is) (by ending (subst (λ (l : Life). LacksCatalogue l h.new ending) begins h.lacks))
    where
      still : IsQuiet (life_from given) h.new
      still = subst (λ (l : Life). IsQuiet l h.new) begins h.quiet

      by : (e : Ending) → LacksCatalogue (life_from given) h.new e → ServesFolder given words looked (Some h.new) e
      by (Refused refusal) lacks = (are_right, h.must, still, lacks)
      by (Failed fault) h = absurd h
      by Done h = absurd h
      by (Cut end) h = absurd h
      by (Unopened fault) h = absurd h
      by FoundDamage h = absurd h
      by LineRefused h = absurd h
      by NoneBefore h = absurd h
      by (Stuck stop) h = absurd h
      by Hidden h = absurd h
      by (NoCommand kind) h = absurd h

  -- a strict server does not open it
  pub not_looked : (new : Life) → new ≡ life_from given → IsTrue words.is_strict → IsSomeAnd looked (MayHideEntries given) → ServesFolder given words looked (Some new) Hidden
  not_looked new is strict hides = (are_right, strict, hides, is)

  over_folder : (old new : Life) (ending : Ending) → IsQuiet (life_from given) old → (IsTrue words.no_create → HasCatalogue (life_from given) old) → ServesOver words.is_strict old new ending
      → ServesFolder given words looked (Some new) ending
  over_folder old new Done quiet there h = (are_right, old, quiet, there, h)
  over_folder old new (Cut end) quiet there h = (are_right, old, quiet, there, h)
  over_folder old new (Stuck stop) quiet there h = (are_right, old, quiet, there, h)
  over_folder old new (Refused refusal) quiet there h = absurd h
  over_folder old new (Failed fault) quiet there h = absurd h
  over_folder old new (Unopened fault) quiet there h = absurd h
  over_folder old new FoundDamage quiet there h = absurd h
  over_folder old new LineRefused quiet there h = absurd h
  over_folder old new NoneBefore quiet there h = absurd h
  over_folder old new Hidden quiet there h = absurd h
  over_folder old new (NoCommand kind) quiet there h = absurd h

  pub served : (left : Option Life) (first old new : Life) (last ending : Ending) (strict : Bool) → first ≡ life_from given → IsQuiet first old → (IsTrue words.no_create → HasCatalogue first old)
      → left ≡ Some new → ending ≡ last → strict ≡ options.is_strict → ServesOver strict old new last → ServesFolder given words looked left ending
  served left first old new last ending strict begins quiet there is so asks h =
      subst (λ (l : Option Life). ServesFolder given words looked l ending) (sym is) (subst (ServesFolder given words looked (Some new)) (sym so)
      (over_folder old new last (subst (λ (l : Life). IsQuiet l old) begins quiet) (subst (λ (l : Life). IsTrue words.no_create → HasCatalogue l old) begins there)
      (subst (λ (s : Bool). ServesOver s old new last) (asks ∙ asked.strict) h)))
