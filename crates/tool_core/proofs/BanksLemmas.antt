-- What calls make of what a compaction would ask of the banks of a script's archive.
use Rattle.std.proofs.Common.{◌≡◌, ◌≢◌, ◌∙◌, true, ap, refl}
use Rattle.std.specs.Prelude.{Result, Ok, Err}
use Rattle.frame_core.specs.declared.refusal.Refusal.{Refusal}
use Rattle.frame_core.specs.declared.refusal.Refusal.TheVariants.{Broken, DeviceFault, HistoryFull, NotCatalogue}
use Rattle.archive_model.specs.declared.reply.Reply.{Reply}
use Rattle.catalogue_log.specs.declared.bank.BankHeader.{BankHeader}
use Rattle.catalogue_log.specs.declared.banks.Spare.{Spare}
use Rattle.catalogue_log.specs.declared.banks.Spare.TheVariants as spares
use Rattle.catalogue_log.specs.LogState.{Banks, LogState, banks_of, is_usable}
use Rattle.control_core.specs.declared.event.Event.{Event}
use Rattle.control_core.specs.declared.event.Event.TheVariants as events
use Rattle.engine_core.specs.Calls.{TellsBank}
use Rattle.engine_core.specs.Engine.{EngineState, KeepsBank}
use Rattle.tool_core.specs.ScriptLines.{BanksCalled}

-- a log that keeps its header and what it found of the other bank
same_banks : (old new : LogState) → KeepsBank old new → banks_of new ≡ banks_of old
same_banks old new keeps =
    ap (λ (h : BankHeader). let b : Banks = record { epoch = h.epoch; spare = is_usable new.spare } in b) keeps.header
    ∙ ap (λ (s : Spare). let b : Banks = record { epoch = old.header.epoch; spare = is_usable s } in b) keeps.spare

usable : (spare : Spare) → spare ≢ spares.Unusable → is_usable spare ≡ true
usable spares.Closed may = refl
usable spares.Open may = refl
usable spares.Unusable may = absurd (may refl)

-- what a call of an open archive makes of the banks
pub called : (event : Event) (old : EngineState) (log : LogState) (outcome : Result Reply Refusal) → TellsBank event old log outcome → BanksCalled event (banks_of old.log) outcome (banks_of log)
called events.Checkpoint old log (Ok reply) told = ((usable old.log.spare told.0.usable, told.0.later), ap banks_of told.1)
called events.Checkpoint old log (Err NotCatalogue) told = (ap is_usable told.1.1, same_banks old.log log told.0)
called events.Checkpoint old log (Err HistoryFull) told = (usable old.log.spare told.1.1, told.1.2, same_banks old.log log told.0)
called events.Checkpoint old log (Err DeviceFault) told = ((usable old.log.spare told.1.usable, told.1.later), same_banks old.log log told.0)
called events.Checkpoint old log (Err refusal) told = same_banks old.log log told.0
called event old log outcome told = same_banks old.log log told

-- one of a closed archive leaves them
pub called_closed : (event : Event) (b : Banks) → BanksCalled event b (Err Broken) b
called_closed events.Checkpoint b = refl
called_closed event b = refl
