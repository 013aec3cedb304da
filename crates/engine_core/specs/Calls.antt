-- A call of an archive, and calls one after another: docs/STORAGE.md, "Recovery"; docs/CONTROL.md, "Requests".
use Rattle.std.specs.Prelude.{◌≡◌, ◌≢◌, ◌⊎◌, ◌+◌, ◌-◌, ◌^◌, ◌≤◌, ℕ, min, IsErrOf, IsFalse, IsTrue, Bool, true, false, List, [], ◌∷◌, count_by, Result, Ok, Err}
use Rattle.disk_core.specs.DiskImage.{DiskImage, MayLeave, reads}
use Rattle.disk_core.specs.Life.{HasFailed, Life, LeavesOnly}
use Rattle.frame_core.specs.declared.refusal.Refusal.{Refusal}
use Rattle.frame_core.specs.declared.refusal.Refusal.TheVariants.{DeviceFault, NoMemory}
use Rattle.segment_store.specs.Stale.{HasSwept}
use Rattle.archive_model.specs.declared.reply.Reply.{Reply}
use Rattle.archive_model.specs.declared.reply.Reply.TheVariants.{Polled, Swept}
use Rattle.archive_model.specs.Register.{RegisterState}
use Rattle.archive_model.specs.State.{State}
use Rattle.control_core.specs.declared.event.Event.{Event}
use Rattle.control_core.specs.declared.event.Event.TheVariants as events
use Rattle.control_core.specs.declared.request.Request.TheVariants.{Truncate}
use Rattle.control_core.specs.Exact.{Archive, ArchiveEnd, CallEnds, asked_of, broken, reads_files, told_of, with_desk}
use Rattle.control_core.specs.Machine.{Stepped}
use Rattle.control_core.specs.Runs.{Leave, StoodAmong, last_left}
use Rattle.catalogue_log.specs.Checkpointing.{MayCheckpoint, RefusesCheckpoint, log_on}
use Rattle.catalogue_log.specs.LogState.{LogState}
use Rattle.recording_reads.specs.Handing.{BeginBy}
use Rattle.engine_core.specs.Recovery.{Recovers, RecoversTo}
use Rattle.engine_core.specs.Engine.{Content, EngineState, DiskGoesOn, IsSpared, KeepsBank, archive_of}
use Rattle.engine_core.specs.Consistent.{IsCrashConsistent, MayStandIn}
use Rattle.engine_core.specs.Moves.{registered_keeps}
use Rattle.engine_core.specs.Catalogued.{IsCatalogued, KeepsFoundBy, MakesLater, register_made}
use Rattle.engine_core.specs.Shown.{Shows}
use Rattle.engine_core.specs.Touching.{Touches}

-- ---- a call

-- A call ends as it may and leaves a crash-consistent archive; a crash at any moment of it leaves the state before it,
-- the one after it, or the one in doubt.
pub record CallEnded (old new : EngineState) (a : Archive) (Ends : Archive → Type 0) : Type 0 where
  pub after : Content
  pub ends : Ends (archive_of new after)
  pub consistent : IsCrashConsistent new.life new.log (archive_of new after)
  pub any_moment : LeavesOnly old.life new.life (RecoversTo (MayStandIn a (archive_of new after)))

-- it changes the archive by what it reads: a truncation, at a position that frames have to have
abbrev pub is_cut : Event → Bool
is_cut (events.Ask (Truncate id position)) = true
is_cut _ = false

-- a fact that rests on reading, where it is one: the disk has to obey the crash model
abbrev pub IfRead : Bool → Life → Type 0 → Type 0
IfRead reading life Fact = (IsTrue reading → IsTrue life.obeys) → Fact

-- what a call leaves whatever it has read: a replay's calls change the desk alone, a sweep and a verification nothing
abbrev pub Keeps : Event → Archive → Archive → Type 0
Keeps (events.ReplayOpen id position size) a b = b ≡ with_desk b.desk a
Keeps (events.ReplayPoll number most) a b = b ≡ with_desk b.desk a
Keeps (events.ReplayPollTo number most limit) a b = b ≡ with_desk b.desk a
Keeps events.Sweep a b = b ≡ a
Keeps (events.Verify id) a b = b ≡ a
Keeps _ a b = Unit {0}

-- the exact end of a call
abbrev pub EndsAs : Life → Life → Event → Archive → Result Reply Refusal → Archive → Type 0
EndsAs old new event a outcome b = IfRead (reads_files a.desk event) new (CallEnds a event (HasFailed old new) outcome b) × Keeps event a b

-- What a call changes of what a compaction asks of the banks. A checkpoint is answered only where the other bank may be written
-- and an epoch is left, and goes on there; it is refused exactly so; each other call changes nothing.
abbrev pub TellsBank : Event → EngineState → LogState → Result Reply Refusal → Type 0
TellsBank events.Checkpoint old log (Ok reply) = MayCheckpoint old.log × (log ≡ log_on old.log old.desk.register)
TellsBank events.Checkpoint old log (Err refusal) = KeepsBank old.log log × RefusesCheckpoint (record old.log { is_broken = old.desk.is_broken }) refusal
TellsBank event old log result = KeepsBank old.log log

-- How a call ends: of any archive by its desk, of a crash-consistent one exactly.
pub record EndsEvent (old new : EngineState) (event : Event) (result : Result Reply Refusal) : Type 0 where
  -- Whatever the archive is: the disk's calls went on, and a fault has its cause.
  pub goes_on : DiskGoesOn old.life new.life
  pub cause : IsErrOf result DeviceFault → HasFailed old.life new.life
  -- No call but a checkpoint changes what a compaction asks of the banks.
  pub bank : TellsBank event old new.log result
  -- The desk made a step of its machine.
  pub machine : Stepped old.desk (asked_of event) (told_of old.desk event result) new.desk
  -- Refused, it has changed nothing, unless a fault of the disk came in a sweep, or broke the archive.
  pub kept : IsSpared ((event ≢ events.Sweep) × (new.desk.is_broken ≡ old.desk.is_broken)) old new result
  -- What a sweep answers tells what became of the files.
  pub swept : (removed : Bool) → event ≡ events.Sweep → result ≡ Ok (Swept removed) →
      HasSwept (registered_keeps old.desk.register) old.life new.life removed
  -- Of a crash-consistent archive: the exact answer, and what a crash leaves. A truncation rests on what it reads.
  pub ended : (c : Content) → IsCrashConsistent old.life old.log (archive_of old c) → (IsTrue (is_cut event) → IsTrue new.life.obeys) →
      CallEnded old new (archive_of old c) (EndsAs old.life new.life event (archive_of old c) result)

-- frames of a poll with a limit begin before it
abbrev pub IsHeldBack : Event → Result Reply Refusal → Type 0
IsHeldBack (events.ReplayPollTo number most limit) (Ok (Polled frames next)) = BeginBy limit frames
IsHeldBack _ _ = Unit {0}

-- What an engine did to answer an event.
pub record AnswersEvent (old new : EngineState) (event : Event) (result : Result Reply Refusal) : Type 0 where
  pub ends : EndsEvent old new event result
  -- Whatever the archive is: what is told of frames is what the files show, and no other file is changed than the call's.
  pub shows : IsTrue new.life.obeys → Shows (reads old.life.now) old.desk event result
  pub touches : Touches old event new.life
  pub held : IsHeldBack event result
  -- And a catalogue that was found whole is so at every moment, with what was recorded before the call or behind it.
  pub catalogue : KeepsFoundBy event old new

-- every image that a crash now may leave recovers to this state
abbrev pub LeavesAlone : Life → State → Type 0
LeavesAlone life s = (image : DiskImage) → MayLeave life.now image → Recovers image s

-- ---- a commit

-- what a commit that is to lead from an archive to another ends with
abbrev pub CommitEnds : Archive → Reply → Archive → Type 0 → ArchiveEnd
CommitEnds a reply b faulted (Ok told) c = (told ≡ reply) × (c ≡ b)
CommitEnds a reply b faulted (Err NoMemory) c = c ≡ a
CommitEnds a reply b faulted (Err DeviceFault) c = faulted × (c ≡ broken b.state a)
CommitEnds a reply b faulted (Err refusal) c = ⊥

-- ---- calls one after another

-- each event is answered, one after another
abbrev pub IsRun : EngineState → List Event → List (Result Reply Refusal) → EngineState → Type 0
IsRun old [] [] new = new ≡ old
IsRun old (event ∷ events) (outcome ∷ outcomes) new = (mid : EngineState) × AnswersEvent old mid event outcome × IsRun mid events outcomes new
IsRun old [] (outcome ∷ outcomes) new = ⊥
IsRun old (event ∷ events) [] new = ⊥

-- Calls of a crash-consistent archive leave archives, one after another, the last of them crash-consistent; a crash at any
-- moment of them leaves a state that stood after the first of them, or was in doubt then.
pub record Ran (old new : EngineState) (a : Archive) (events : List Event) (outcomes : List (Result Reply Refusal)) : Type 0 where
  pub left : List Archive
  pub leave : Leave a events outcomes left
  pub after : Content
  pub last : last_left a left ≡ archive_of new after
  pub consistent : IsCrashConsistent new.life new.log (archive_of new after)
  pub any_moment : LeavesOnly old.life new.life (RecoversTo (StoodAmong a left))

-- ---- calls over damage

-- each call was made while no write had failed
abbrev pub WorksOn : (old : EngineState) (events : List Event) (outcomes : List (Result Reply Refusal)) (new : EngineState) → IsRun old events outcomes new → Type 0
WorksOn old [] [] new run = Unit {0}
WorksOn old (event ∷ events) (outcome ∷ outcomes) new run = IsFalse old.desk.is_broken × WorksOn run.0 events outcomes new run.2
WorksOn old [] (outcome ∷ outcomes) new run = ⊥
WorksOn old (event ∷ events) [] new run = ⊥

-- the recordings before the first call, or those that one of the calls makes where it is accepted
abbrev pub StoodIn : (old : EngineState) (events : List Event) (outcomes : List (Result Reply Refusal)) (new : EngineState) → IsRun old events outcomes new → RegisterState → Type 0
StoodIn old [] [] new run g = g ≡ old.desk.register
StoodIn old (event ∷ events) (outcome ∷ outcomes) new run g = (g ≡ old.desk.register) ⊎ ((g ≡ register_made old.desk event) ⊎ StoodIn run.0 events outcomes new run.2 g)
StoodIn old [] (outcome ∷ outcomes) new run g = ⊥
StoodIn old (event ∷ events) [] new run g = ⊥

-- A crash at any moment of calls leaves a catalogue of the same header, or of a later one that a checkpoint wrote, which makes
-- recordings that stood then; behind them, while no write has failed, the log is at rest with what makes the desk's.
pub record KeepsStanding (old new : EngineState) (Stood : RegisterState → Type 0) : Type 0 where
  pub any_moment : LeavesOnly old.life new.life (λ image. (g : RegisterState) × Stood g × MakesLater old.log.header g image)
  pub rests : IsFalse new.desk.is_broken → IsCatalogued new

-- ---- faults

-- a call was answered by a device fault
abbrev pub is_fault : Result Reply Refusal → Bool
is_fault (Err DeviceFault) = true
is_fault _ = false

-- how many calls were
abbrev pub faults_in : List (Result Reply Refusal) → ℕ
faults_in outcomes = count_by is_fault outcomes

-- the count of faults rose by so many at least, unless it came to its last value
abbrev pub HasFailedOften : ℕ → Life → Life → Type 0
HasFailedOften n old new = min (old.faults + n) (2 ^ 64 - 1) ≤ new.faults
