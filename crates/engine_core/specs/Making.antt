-- How commands are made.
use Rattle.std.specs.Prelude.{◌≡◌, ◌⊎◌, ℕ, ℤ, pos, IfErr, IfOk, IsErrOf, List, OnOk, Result, Err}
use Rattle.disk_core.specs.Life.{HasFailed, LeavesOnly, Life}
use Rattle.frame_core.specs.declared.refusal.Refusal.{Refusal}
use Rattle.frame_core.specs.declared.refusal.Refusal.TheVariants.{DeviceFault, NoMemory}
use Rattle.archive_model.specs.declared.version.BankVersion.{BankVersion}
use Rattle.archive_model.specs.declared.command.Command.TheVariants.{Restart}
use Rattle.archive_model.specs.declared.reply.Reply.{Reply}
use Rattle.archive_model.specs.Commands.{after}
use Rattle.archive_model.specs.Register.{RegisterState, active_count, all_stopped, no_recordings}
use Rattle.archive_model.specs.State.{State, register_of}
use Rattle.catalogue_entries.specs.declared.entry.Entry.{Entry}
use Rattle.catalogue_entries.specs.declared.entry.Entry.TheVariants as entries
use Rattle.catalogue_entries.specs.Fold.{after_entries}
use Rattle.catalogue_log.specs.Banks.{bank_file}
use Rattle.catalogue_log.specs.Catalogue.{ChangesBank}
use Rattle.catalogue_log.specs.LogState.{IsAtRest}
use Rattle.control_core.specs.Changes.{broken_desk}
use Rattle.control_core.specs.Desk.{DeskState, opened_desk}
use Rattle.control_core.specs.Exact.{Archive, opened_archive}
use Rattle.engine_core.specs.Catalogued.{HasEntries, restarted_entries}
use Rattle.engine_core.specs.Moves.{ChangesThese}
use Rattle.engine_core.specs.Recovery.{IsEither, RecoversTo}
use Rattle.engine_core.specs.Engine.{Content, EngineState, DiskGoesOn, IsSpared, KeepsBank, archive_of}
use Rattle.engine_core.specs.Consistent.{IsCrashConsistent}
use Rattle.engine_core.specs.Calls.{CommitEnds, CallEnded}

-- a device fault breaks the archive
abbrev pub after_failure : Refusal → DeskState → DeskState
after_failure DeviceFault d = broken_desk d
after_failure _ d = d

-- What an operation did that adds an entry, and so leads archives that fit to others.
pub record CommitsEntry (old new : EngineState) (Fits : Archive → Type 0) (reply : Reply) (to : Archive → Archive) (result : Result Reply Refusal) : Type 0 where
  pub goes_on : DiskGoesOn old.life new.life
  pub bank : KeepsBank old.log new.log
  -- refused it has changed nothing, unless a fault broke the archive
  pub kept : IsSpared (new.desk.is_broken ≡ old.desk.is_broken) old new result
  -- whatever the archive is
  pub exact : (c : Content) → (after : Content) × CommitEnds (archive_of old c) reply (to (archive_of old c)) (HasFailed old.life new.life) result (archive_of new after)
  -- of a crash-consistent one
  pub ended : (c : Content) → IsCrashConsistent old.life old.log (archive_of old c) → Fits (archive_of old c) →
      CallEnded old new (archive_of old c) (CommitEnds (archive_of old c) reply (to (archive_of old c)) (HasFailed old.life new.life) result)

-- The entry of a restart was added behind others where a recording was active; where none was, nothing was.
pub record RestartsBehind (old new : EngineState) (es : List Entry) (result : Result ℤ Refusal) : Type 0 where
  pub any_moment : LeavesOnly old.life new.life (HasEntries old.log.header es entries.Restart)
  pub rests : IfOk result (λ stopped. IsAtRest new.life.now new.log (restarted_entries stopped es))

-- What a restart of an archive did that is opened.
pub record Restarts (old new : EngineState) (result : Result ℤ Refusal) : Type 0 where
  pub bank : KeepsBank old.log new.log
  pub touches : ChangesThese (λ file. file ≡ bank_file old.log.bank) 4 old.life new.life
  -- whatever the segment files hold
  pub entries : (es : List Entry) → IsAtRest old.life.now old.log es → after_entries no_recordings es ≡ old.desk.register → RestartsBehind old new es result
  pub changes : ChangesBank old.life new.life
  pub cause : IsErrOf result DeviceFault → HasFailed old.life new.life
  pub outside : IfErr result (λ refusal. (refusal ≡ DeviceFault) ⊎ (refusal ≡ NoMemory))
  -- refused by anything but a fault it has done nothing, and where nothing was active
  pub kept : IfErr result (λ refusal. (refusal ≡ DeviceFault) ⊎ (new.life ≡ old.life))
  pub idle : IfOk result (λ stopped. stopped ≡ pos 0 → new.life ≡ old.life)
  pub stopped : IfOk result (λ stopped. stopped ≡ pos (active_count old.desk.register))
  pub desk : OnOk result ((g : RegisterState) (counted limit : ℕ) (version : BankVersion) → old.desk ≡ opened_desk g counted limit version → new.desk ≡ opened_desk (all_stopped g) counted limit version)
  -- of an archive at which nobody calls yet
  pub restarted : OnOk result ((s : State) (counted limit : ℕ) (version : BankVersion) → old.desk ≡ opened_desk (register_of s) counted limit version → IsCrashConsistent old.life old.log (opened_archive s counted limit version) →
      IsCrashConsistent new.life new.log (opened_archive (after s Restart) counted limit version))
  pub any_moment : (s : State) (counted limit : ℕ) (version : BankVersion) → old.desk ≡ opened_desk (register_of s) counted limit version → IsCrashConsistent old.life old.log (opened_archive s counted limit version) →
      LeavesOnly old.life new.life (RecoversTo (IsEither s (after s Restart)))

-- It did not restart, and its disk is handed back.
pub record HasNotStarted (old : EngineState) (disk : Life) (refusal : Refusal) : Type 0 where
  pub new : EngineState
  pub life : new.life ≡ disk
  pub restarts : Restarts old new (Err refusal)
