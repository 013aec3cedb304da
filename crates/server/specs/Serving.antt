-- What becomes of a disk that is served: docs/SERVING.md.
use Rattle.std.specs.Prelude.{◌≡◌, ◌⊎◌, Bool, false, true, if◌then◌else◌, IsTrue, List, Option, None, Some, Result, Err}
use Rattle.disk_core.specs.Life.{Life}
use Rattle.control_core.specs.Desk.{DeskState, has_room}
use Rattle.engine_core.specs.Consistent.{IsCrashConsistent}
use Rattle.engine_core.specs.Engine.{Content, EngineState, archive_of}
use Rattle.engine_core.specs.Opening.{ReadsAsBefore}
use Rattle.archive_lock.specs.Durable.{GroupsStay, SettlingsStay}
use Rattle.archive_lock.specs.History.{IsLegalHistory, Member}
use Rattle.archive_lock.specs.Leading.{LeadsTo}
use Rattle.tool_core.specs.declared.fault.EarlyEnd.{EarlyEnd}
use Rattle.tool_core.specs.declared.fault.EarlyEnd.TheVariants as ends
use Rattle.tool_core.specs.declared.observer.Beginning.{Beginning}
use Rattle.tool_core.specs.declared.observer.Beginning.TheVariants.{Refused}
use Rattle.tool_core.specs.Archives.{BeginsAs, Closed, Open, SeenArchive, life_of}
use Rattle.server.specs.declared.served.Stuck.{Stuck}
use Rattle.server.specs.declared.served.Stuck.TheVariants.{Unopened, Broken, HistoryFull}

-- ---- why a strict server can record nothing

-- by its archive's desk: a write has failed, or the history is full
abbrev pub stuck_by : Bool → DeskState → Option Stuck
stuck_by false d = None
stuck_by true d = if d.is_broken then Some Broken else if has_room d then None else Some HistoryFull

-- of an archive that could not be opened
abbrev pub unopened_stop : Bool → Beginning → Option Stuck
unopened_stop true (Refused refusal) = Some (Unopened refusal)
unopened_stop strict beginning = None

-- ---- the disk

-- The disk is the one at the end of a legal history of calls from an opening, which leads to it. Where the archive was
-- crash-consistent and its disk obeyed, what its settlings answered stays, of one session and of several together. A strict server says whether anything can be
-- recorded then.
pub record EndsHistory (opening : EngineState) (strict : Bool) (new : Life) (stop : Option Stuck) : Type 0 where
  pub calls : List Member
  pub now : EngineState
  pub legal : IsLegalHistory opening calls
  pub leads : LeadsTo opening calls now
  pub settled : (c : Content) → IsCrashConsistent opening.life opening.log (archive_of opening c) → IsTrue now.life.obeys → SettlingsStay (archive_of opening c) calls now
  pub together : (c : Content) → IsCrashConsistent opening.life opening.log (archive_of opening c) → IsTrue now.life.obeys → GroupsStay (archive_of opening c) calls now
  pub left : new ≡ now.life
  pub stops : stop ≡ stuck_by strict now.desk

-- it does; or no call was made for want of memory, and the disk is as the archive was opened with it
abbrev pub EndsOrLacks : Life → EngineState → Bool → Life → Option Stuck → Result (Unit {0}) EarlyEnd → Type 0
EndsOrLacks old opening strict new stop end = EndsHistory opening strict new stop ⊎ ((end ≡ Err ends.Memory) × (new ≡ old))

-- from an archive that is open the disk ends a history; where none is open it stays
abbrev pub EndsFrom : Bool → Beginning → SeenArchive → Life → Option Stuck → Type 0
EndsFrom strict beginning (Open engine) new stop = EndsHistory engine strict new stop
EndsFrom strict beginning (Closed life) new stop = (new ≡ life) × (stop ≡ unopened_stop strict beginning)

-- an archive was made or opened, or none could be, and was served, by a strict server or by one that is not
pub record IsServedAs (strict : Bool) (old new : Life) (stop : Option Stuck) : Type 0 where
  pub first : SeenArchive
  pub beginning : Beginning
  pub begins : BeginsAs old beginning first
  pub ends : EndsFrom strict beginning first new stop

-- whatever is said of its end
abbrev pub IsServed : Life → Life → Type 0
IsServed old new = IsServedAs false old new None

-- for want of memory the disk stays as it was, or it was not opened, and reads and leaves what it did before; or it was opened,
-- and no call was made
abbrev pub IsUnserved : Life → Life → Type 0
IsUnserved old new =
    (new ≡ old) ⊎ ReadsAsBefore old new
    ⊎ ((first : SeenArchive) × (beginning : Beginning) × BeginsAs old beginning first × (new ≡ life_of first))

-- it was served up to an early end; or not, for want of memory
abbrev pub IsServedUpTo : Life → Life → EarlyEnd → Type 0
IsServedUpTo old new end = IsServed old new ⊎ ((end ≡ ends.Memory) × IsUnserved old new)

-- how an archive was served
abbrev pub EndsUpTo : Bool → Beginning → SeenArchive → Life → Option Stuck → Result (Unit {0}) EarlyEnd → Type 0
EndsUpTo strict beginning (Open engine) new stop end = EndsOrLacks engine.life engine strict new stop end
EndsUpTo strict beginning (Closed life) new stop end = (new ≡ life) × (stop ≡ unopened_stop strict beginning)
