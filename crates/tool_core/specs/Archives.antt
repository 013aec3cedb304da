-- How a script's archive answers, whatever its disk holds and does: each call as `Engine::step` says, each opening as `Engine::open`
-- says, each compaction as `engine_core::compact` says, and what a script does from its opening to its last line. docs/CONTROL.md, "Scripts".
use Rattle.std.specs.Prelude.{◌≡◌, ◌≢◌, ◌⊎◌, ℕ, ℤ, List, Option, None, Some, Result, Ok, Err}
use Rattle.std.specs.Io.KnownBytes.{Keeps}
use Rattle.frame_core.specs.declared.geometry.Geometry.{Geometry}
use Rattle.frame_core.specs.declared.refusal.Refusal.{Refusal}
use Rattle.frame_core.specs.declared.refusal.Refusal.TheVariants.{Broken, NoMemory}
use Rattle.disk_core.specs.DiskImage.{MayLeave, reads}
use Rattle.disk_core.specs.declared.disk.Disk as Disk
use Rattle.disk_core.specs.Life.{Life}
use Rattle.archive_model.specs.declared.reply.Reply.TheVariants.{Compacted, Reopened}
use Rattle.control_core.specs.declared.event.Event.{Event}
use Rattle.control_core.specs.Bytes.{terms_in}
use Rattle.engine_core.specs.Calls.{AnswersEvent}
use Rattle.engine_core.specs.Compacting.{Compacts}
use Rattle.engine_core.specs.Engine.{EngineState, IsTied}
use Rattle.engine_core.specs.Opened.{HasNotOpened, HasOpened, MadeOrOpened, NeitherMadeNorOpened}
use Rattle.engine_core.specs.Opening.{ReadsAsBefore}
use Rattle.engine_core.specs.Seen.{seen}
use Rattle.tool_core.specs.declared.archive.ScriptArchive.{ScriptArchive}
use Rattle.tool_core.specs.declared.archive.ScriptArchive.TheVariants as archives
use Rattle.tool_core.specs.declared.fault.EarlyEnd.{EarlyEnd}
use Rattle.tool_core.specs.declared.fault.EarlyEnd.TheVariants as ends
use Rattle.tool_core.specs.declared.fault.ScriptFault.{ScriptFault}
use Rattle.tool_core.specs.declared.fault.ScriptFault.TheVariants as faults
use Rattle.tool_core.specs.declared.history.HistoryUse.{HistoryUse}
use Rattle.tool_core.specs.declared.observer.Beginning.{Beginning}
use Rattle.tool_core.specs.declared.observer.Beginning.TheVariants as beginnings
use Rattle.tool_core.specs.declared.state.ScriptState.{ScriptState}
use Rattle.tool_core.specs.Answering.{AnswersFirstLines, AnswersLines, Ways, begun_with, no_checkpoints}
use Rattle.tool_core.specs.Merging.{Ends}

-- an archive as a script sees it: open, and as its calls see it; or none is open, and this befell the disk
pub data SeenArchive : Type 0 where
  Open : EngineState → SeenArchive
  Closed : Life → SeenArchive

-- what is seen of an archive over a disk
abbrev pub archive_seen : {D : Type 0} {dg : Disk.Ghosts D} → (D → Life) → ScriptArchive D dg → SeenArchive
archive_seen life (archives.Open engine) = Open (seen life engine)
archive_seen life (archives.Closed disk) = Closed (life disk)

-- the disk of an archive
abbrev pub life_of : SeenArchive → Life
life_of (Open engine) = engine.life
life_of (Closed life) = life

-- ---- openings

-- the disk with this life is opened, or refused, and then none is open
abbrev pub OpensDisk : Life → Ends SeenArchive
OpensDisk old (Ok reply) (Open engine) = (stopped : ℤ) × (reply ≡ Reopened stopped) × HasOpened old engine stopped
OpensDisk old (Err refusal) (Closed new) = HasNotOpened old new refusal
OpensDisk old (Ok reply) (Closed new) = ⊥
OpensDisk old (Err refusal) (Open engine) = ⊥

-- ---- calls

-- the terms that the engine's desk knows; none is known where none is open
abbrev pub TermsAre : SeenArchive → ℤ → Result Geometry Refusal → Type 0
TermsAre (Open engine) session terms = terms ≡ terms_in engine.desk session
TermsAre (Closed life) session terms = terms ≡ Err Broken

-- an event is answered as `Engine::step` says; where none is open it is Broken
abbrev pub CallsEngine : Event → SeenArchive → Ends SeenArchive
CallsEngine event (Open old) outcome (Open new) = AnswersEvent old new event outcome
CallsEngine event (Open old) outcome (Closed new) = ⊥
CallsEngine event (Closed old) outcome new = (outcome ≡ Err Broken) × (new ≡ Closed old)

-- ---- compactions

-- a crash now may leave what the disk reads as
abbrev pub ReadsMayStay : Life → Type 0
ReadsMayStay life = MayLeave life.now (reads life.now)

-- what is so of each engine: its log and its desk count alike, and a crash now may leave what its disk reads as
pub record IsEngine (engine : EngineState) : Type 0 where
  pub tied : IsTied engine.log engine.desk
  pub stays : ReadsMayStay engine.life

-- The archive of a disk was opened, which stopped so many recordings, closed, and its catalogue written anew.
pub record HasCompacted (old new : Life) : Type 0 where
  pub engine : EngineState
  pub is : IsEngine engine
  pub stopped : ℤ
  pub opened : HasOpened old engine stopped
  pub anew : Compacts engine.life new (Ok tt)
  pub stays : ReadsMayStay new

-- it was opened and closed, and its catalogue not written anew
pub record HasRefused (old new : Life) (refusal : Refusal) : Type 0 where
  pub engine : EngineState
  pub is : IsEngine engine
  pub stopped : ℤ
  pub opened : HasOpened old engine stopped
  pub refused : Compacts engine.life new (Err refusal)

-- it was not opened, or its catalogue not written anew
abbrev pub HasNotCompacted : Life → Life → Refusal → Type 0
HasNotCompacted old new refusal = HasNotOpened old new refusal ⊎ HasRefused old new refusal

-- The archive of the disk with this life is opened, closed, compacted and opened; or one of these is refused, and then none is
-- open.
abbrev pub CompactsDisk : Life → Ends SeenArchive
CompactsDisk old (Ok reply) (Open engine) =
    (reply ≡ Compacted) × (mid : Life) × HasCompacted old mid × (stopped : ℤ) × HasOpened mid engine stopped
CompactsDisk old (Err refusal) (Closed new) =
    HasNotCompacted old new refusal ⊎ ((mid : Life) × HasCompacted old mid × HasNotOpened mid new refusal)
CompactsDisk old (Ok reply) (Closed new) = ⊥
CompactsDisk old (Err refusal) (Open engine) = ⊥

-- an archive that is open; else it is Broken
abbrev pub CompactsArchive : SeenArchive → Ends SeenArchive
CompactsArchive (Open engine) outcome new = CompactsDisk engine.life outcome new
CompactsArchive (Closed old) outcome new = (outcome ≡ Err Broken) × (new ≡ Closed old)

abbrev pub archive_ways : Ways SeenArchive
archive_ways = record {
  terms = λ session old terms new. TermsAre old session terms × (new ≡ old);
  call = CallsEngine;
  reopen = λ old. OpensDisk (life_of old);
  compact = CompactsArchive;
}

-- ---- scripts

-- What a script begins with: an archive that was made or opened, as `Engine::create_or_open` says; or none, by a refusal
-- but want of memory.
abbrev pub BeginsAs : Life → Beginning → SeenArchive → Type 0
BeginsAs old beginnings.Made (Open engine) = MadeOrOpened 1048576 old engine None
BeginsAs old beginnings.Opened (Open engine) = (stopped : ℤ) × MadeOrOpened 1048576 old engine (Some stopped)
BeginsAs old (beginnings.Refused refusal) (Closed new) = (refusal ≢ NoMemory) × NeitherMadeNorOpened 1048576 old new refusal
BeginsAs old beginning archive = ⊥

-- From what was opened of the disk on, and without a merge, the text answers lines so, and that is what the disk came to.
pub record IsScriptBy (Answer : ScriptState SeenArchive → ScriptState SeenArchive → List (List ℕ) → List ℕ → Type 0) (old new : Life) (lines : List (List ℕ)) (text : List ℕ) : Type 0 where
  pub first : SeenArchive
  pub beginning : Beginning
  pub begins : BeginsAs old beginning first
  pub last : ScriptState SeenArchive
  pub answers : Answer (begun_with first) last lines text
  pub left : new ≡ life_of last.archive

-- the text answers all lines
abbrev pub IsScript : Life → Life → List (List ℕ) → List ℕ → Type 0
IsScript = IsScriptBy (AnswersLines archive_ways no_checkpoints)

-- it answers the first of these lines, or one more, of whose answer nothing was written
abbrev pub IsScriptOfFirst : Life → Life → List (List ℕ) → List ℕ → Type 0
IsScriptOfFirst = IsScriptBy (AnswersFirstLines archive_ways no_checkpoints)

-- how much of its history an open archive has used
abbrev pub history_of : SeenArchive → Option HistoryUse
history_of (Open engine) = Some (record { counted = engine.desk.counted; limit = engine.desk.limit })
history_of (Closed life) = None

-- none is open by a refusal, or the disk goes back for want of memory
abbrev pub closed_by : {D : Type 0} {dg : Disk.Ghosts D} → Refusal → D → Result (ScriptArchive D dg × Beginning) D
closed_by NoMemory disk = Err disk
closed_by refusal disk = Ok (archives.Closed disk, beginnings.Refused refusal)

-- the archive was not opened, for want of memory: nothing is written, and the disk reads and leaves what it did before
pub record IsUnopened (old new : Life) (contents written : Option (List ℕ)) (end : EarlyEnd) : Type 0 where
  pub memory : end ≡ ends.Memory
  pub kept : Keeps contents written
  pub before : ReadsAsBefore old new

-- why a script ended, and its disk
abbrev pub early_end_of : {D : Type 0} → ScriptFault D → EarlyEnd
early_end_of (faults.Read disk) = ends.Read
early_end_of (faults.Write disk) = ends.Write
early_end_of (faults.Memory disk) = ends.Memory

abbrev pub disk_of : {D : Type 0} → ScriptFault D → D
disk_of (faults.Read disk) = disk
disk_of (faults.Write disk) = disk
disk_of (faults.Memory disk) = disk
