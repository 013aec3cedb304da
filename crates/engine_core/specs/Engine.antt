-- An engine as its calls see it, and the archive that it keeps: docs/ARCHITECTURE.md, "The engine".
use Rattle.std.specs.Prelude.{◌≡◌, ◌≤◌, ℕ, ℤ, IfErr, IsFalse, IsTrue, List, [], Option, None, Result}
use Rattle.disk_core.specs.Life.{IsQuiet, Life}
use Rattle.frame_core.specs.declared.refusal.Refusal.{Refusal}
use Rattle.frame_core.specs.declared.refusal.Refusal.TheVariants.{DeviceFault}
use Rattle.frame_core.specs.declared.block.Block.{Block}
use Rattle.archive_model.specs.declared.reply.Reply.{Reply}
use Rattle.archive_model.specs.State.{State, empty}
use Rattle.catalogue_log.specs.LogState.{LogState}
use Rattle.control_core.specs.Desk.{DeskState, new_desk}
use Rattle.control_core.specs.Exact.{Archive}

-- what befell its disk, the log of its catalogue, and its desk
pub record EngineState : Type 0 where
  pub life : Life
  pub log : LogState
  pub desk : DeskState

-- what an archive is beside its desk
pub record Content : Type 0 where
  pub state : State
  pub blocks : ℤ → List Block
  pub doubt : Option State

-- the archive with this content and the engine's desk
abbrev pub archive_of : EngineState → Content → Archive
archive_of e c = record { state = c.state; desk = e.desk; blocks = c.blocks; doubt = c.doubt }

abbrev pub content_of : Archive → Content
content_of a = record { state = a.state; blocks = a.blocks; doubt = a.doubt }

-- the archive before its first recording: nobody calls yet, nothing is written and nothing is in doubt
abbrev pub new_archive : ℕ → Archive
new_archive limit = record { state = empty; desk = new_desk limit; blocks = λ number. []; doubt = None }

-- while no write has failed the log works, and counts the entries that the desk counts, up to the desk's limit, in a bank of
-- the desk's version
pub record IsTied (log : LogState) (desk : DeskState) : Type 0 where
  pub works : IsFalse desk.is_broken → IsFalse log.is_broken
  pub counted : IsFalse desk.is_broken → log.counted ≡ desk.counted
  pub limit : IsFalse desk.is_broken → log.header.history_limit ≡ desk.limit
  pub version : IsFalse desk.is_broken → log.header.version ≡ desk.version

-- entries are added to the same bank, of the same header, beside the same other one
pub record KeepsBank (old new : LogState) : Type 0 where
  pub bank : new.bank ≡ old.bank
  pub header : new.header ≡ old.header
  pub spare : new.spare ≡ old.spare

-- what holds of every stretch of a disk's calls: what was obeyed at its end was at its start, and faults are not uncounted
pub record DiskGoesOn (old new : Life) : Type 0 where
  pub obeyed : IsTrue new.obeys → IsTrue old.obeys
  pub faults : old.faults ≤ new.faults

-- the same files, log and desk: nothing but the count of faults has changed
pub record IsAsBefore (old new : EngineState) : Type 0 where
  pub files : IsQuiet old.life new.life
  pub log : new.log ≡ old.log
  pub desk : new.desk ≡ old.desk

-- a refusal has changed nothing; one by a fault of the disk where that was harmless
abbrev pub IsSpared : (harmless : Type 0) → EngineState → EngineState → Result Reply Refusal → Type 0
IsSpared harmless old new result = IfErr result (λ refusal. (refusal ≡ DeviceFault → harmless) → IsAsBefore old new)
