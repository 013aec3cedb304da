-- What each call of a script's archive ends with exactly, and how the script stands after it, where its disk obeys the crash model.
-- docs/CONTROL.md, "Lines"; docs/STORAGE.md, "Recovery".
use Rattle.std.specs.Prelude.{◌≡◌, ◌⊎◌, ◌+◌, ◌^◌, ◌<◌, ◌≤◌, ℤ, pos, true, false, Option, Some, None, Result, Ok, Err}
use Rattle.frame_core.specs.declared.geometry.Geometry.{Geometry}
use Rattle.frame_core.specs.declared.refusal.Refusal.{Refusal}
use Rattle.frame_core.specs.declared.refusal.Refusal.TheVariants.{Broken, DeviceFault, HistoryFull, NoMemory, NotCatalogue}
use Rattle.disk_core.specs.DiskImage.{DiskImage, MayLeave, reads}
use Rattle.disk_core.specs.Life.{HasFailed, LeavesOnly, Life}
use Rattle.archive_model.specs.declared.version.BankVersion.TheVariants.{Two}
use Rattle.archive_model.specs.declared.command.Command.TheVariants.{Restart}
use Rattle.archive_model.specs.declared.reply.Reply.{Reply}
use Rattle.archive_model.specs.declared.reply.Reply.TheVariants.{Compacted, Reopened}
use Rattle.archive_model.specs.Commands.{after}
use Rattle.archive_model.specs.State.{State, active_count}
use Rattle.catalogue_log.specs.LogState.{Banks, TellsBanks}
use Rattle.control_core.specs.declared.event.Event.{Event}
use Rattle.control_core.specs.declared.event.Event.TheVariants as events
use Rattle.control_core.specs.Bytes.{terms_in}
use Rattle.control_core.specs.Exact.{Archive, CallEnds, opened_archive}
use Rattle.control_core.specs.Runs.{MayStand}
use Rattle.engine_core.specs.Opened.{IsFresh}
use Rattle.engine_core.specs.Recovery.{IsEither, Recovers, RecoversTo}
use Rattle.tool_core.specs.Answering.{Ways}
use Rattle.tool_core.specs.Merging.{Ends}

-- ---- the archive of a script

-- How the archive stands. It is open; or it could not be opened again for want of memory, and is as it was last; or since a
-- device fault, and then the disk recovers to one of two states; or there is none: what the disk reads as, and why its
-- catalogue is refused. Nothing is known behind a call that failed while an archive was made, or a refused catalogue was read.
pub data Standing : Type 0 where
  opened : Archive → Standing
  closed : Archive → Standing
  doubtful : State → State → Standing
  refused : DiskImage → Refusal → Standing
  unknown : Standing

-- The archive, what a compaction would ask of the banks of its catalogue, and what befell the disk.
pub record Scene : Type 0 where
  pub archive : Standing
  pub banks : Banks
  pub life : Life

-- how an archive stands once it is closed, of which this state is in doubt
abbrev pub closed_in : Archive → Option State → Standing
closed_in a None = closed a
closed_in a (Some u) = doubtful a.state u

-- how it stands once it is closed
abbrev pub shut : Standing → Standing
shut (opened a) = closed_in a a.doubt
shut standing = standing

-- a call of the disk has failed between two scenes
abbrev pub Faulted : Scene → Scene → Type 0
Faulted s t = HasFailed s.life t.life

-- ---- at every moment

-- the state of the archive, or the one in doubt; none where there is no archive
abbrev pub MayStandAt : Standing → State → Type 0
MayStandAt (opened a) x = MayStand a x
MayStandAt (closed a) x = x ≡ a.state
MayStandAt (doubtful s u) x = IsEither s u x
MayStandAt (refused image why) x = ⊥
MayStandAt unknown x = ⊥

-- the restart of a state of the archive
abbrev pub IsRestarted : Standing → State → Type 0
IsRestarted standing x = (y : State) × MayStandAt standing y × (x ≡ after y Restart)

-- a crash at any moment between two scenes leaves a state that may stand at one of them
abbrev pub LeavesBetween : Scene → Scene → Type 0
LeavesBetween s t = LeavesOnly s.life t.life (RecoversTo (λ x. MayStandAt s.archive x ⊎ MayStandAt t.archive x))

-- A crash at any moment of an opening, between these lives of the disk, leaves a state before it or after it, or the restart of
-- one before it; where the catalogue is refused, what it might have left before.
abbrev pub LeavesReopening : Life → Life → Standing → Standing → Type 0
LeavesReopening old new (refused image why) after = (after ≡ unknown) ⊎ LeavesOnly old new (MayLeave old.now)
LeavesReopening old new unknown after = Unit {0}
LeavesReopening old new before after = LeavesOnly old new (RecoversTo (λ x. MayStandAt before x ⊎ (MayStandAt after x ⊎ IsRestarted before x)))

-- ---- calls

-- the terms of the recording that a session writes; none is known where none is open
abbrev pub KnowsTerms : Standing → ℤ → Result Geometry Refusal → Type 0
KnowsTerms (opened a) session terms = terms ≡ terms_in a.desk session
KnowsTerms unknown session terms = Unit {0}
KnowsTerms standing session terms = terms ≡ Err Broken

-- What is done where the archive is open; else it is Broken, and nothing changes.
abbrev pub WhereOpen : (Archive → Ends Scene) → Standing → Scene → Ends Scene
WhereOpen Made (opened a) s outcome t = Made a outcome t
WhereOpen Made unknown s outcome t = t.archive ≡ unknown
WhereOpen Made standing s outcome t = (outcome ≡ Err Broken) × (t ≡ s)

-- A call of an open archive. It is answered by a device fault only where a call of the disk has failed.
abbrev pub CallsOpen : Event → Scene → Archive → Ends Scene
CallsOpen event s a outcome t = (b : Archive) × (t.archive ≡ opened b) × CallEnds a event (Faulted s t) outcome b × LeavesBetween s t

-- the next epoch; the bank that was in use may be written
abbrev pub next_banks : Banks → Banks
next_banks b = record { epoch = b.epoch + 1; spare = true }

-- a bank that may be written, and an epoch for it
abbrev pub MayCompact : Banks → Type 0
MayCompact b = (b.spare ≡ true) × (b.epoch + 1 < 2 ^ 64)

-- What a call leaves of what a compaction would ask of the banks. A checkpoint that is answered goes on in the next epoch, and the
-- bank that was in use may be written. Its banks refuse one exactly so, and the disk may fail only if they do not. Each other
-- call leaves them as they were.
abbrev pub BanksCalled : Event → Banks → Result Reply Refusal → Banks → Type 0
BanksCalled events.Checkpoint b (Ok reply) c = ((b.spare ≡ true) × (b.epoch + 1 < 2 ^ 64)) × (c ≡ next_banks b)
BanksCalled events.Checkpoint b (Err NotCatalogue) c = (b.spare ≡ false) × (c ≡ b)
BanksCalled events.Checkpoint b (Err HistoryFull) c = (b.spare ≡ true) × (2 ^ 64 ≤ b.epoch + 1) × (c ≡ b)
BanksCalled events.Checkpoint b (Err DeviceFault) c = MayCompact b × (c ≡ b)
BanksCalled event b outcome c = c ≡ b

-- a call
abbrev pub Calls : Event → Scene → Ends Scene
Calls event s outcome t = WhereOpen (CallsOpen event s) s.archive s outcome t × BanksCalled event s.banks outcome t.banks

-- ---- reopening

-- the archive once it is opened again: each active recording has stopped, and nobody calls yet
abbrev pub reopened : Archive → Archive
reopened a = opened_archive (after a.state Restart) a.desk.counted a.desk.limit a.desk.version

-- It is closed and opened again. Where there is no memory for that it stays closed; a device fault leaves the state or its
-- restart.
abbrev pub ReopensAs : Type 0 → Archive → Ends Standing
ReopensAs faulted a (Ok reply) new = (reply ≡ Reopened (pos (active_count a.state))) × (new ≡ opened (reopened a))
ReopensAs faulted a (Err NoMemory) new = new ≡ closed a
ReopensAs faulted a (Err DeviceFault) new = faulted × (new ≡ doubtful a.state (after a.state Restart))
ReopensAs faulted a (Err refusal) new = ⊥

-- the restart of the one of two states that the disk reads as, with the history that its catalogue has
pub record IsRestart (life : Life) (s u : State) (restarted : ℤ) (b : Archive) : Type 0 where
  pub read : State
  pub is : IsEither s u read
  pub recovers : Recovers (reads life.now) read
  pub stopped : restarted ≡ pos (active_count read)
  pub fresh : IsFresh (reads life.now) (after read Restart) b

-- a device fault leaves both states, or one of them and its restart
abbrev pub StaysInDoubt : State → State → Standing → Type 0
StaysInDoubt s u (doubtful x y) = ((x ≡ s) × (y ≡ u)) ⊎ (IsEither s u x × (y ≡ after x Restart))
StaysInDoubt s u _ = ⊥

-- the archive of one of two states is opened again
abbrev pub ReopensEither : Life → Type 0 → State → State → Ends Standing
ReopensEither life faulted s u (Ok (Reopened restarted)) (opened b) = IsRestart life s u restarted b
ReopensEither life faulted s u (Ok reply) new = ⊥
ReopensEither life faulted s u (Err NoMemory) new = new ≡ doubtful s u
ReopensEither life faulted s u (Err DeviceFault) new = faulted × StaysInDoubt s u new
ReopensEither life faulted s u (Err refusal) new = ⊥

-- What is opened of a disk with this life, where the archive stood so when it was closed. Where there is no archive it is refused
-- again.
abbrev pub ReopensShut : Life → Type 0 → Standing → Ends Standing
ReopensShut life faulted (opened a) outcome new = ⊥
ReopensShut life faulted (closed a) outcome new = ReopensAs faulted a outcome new
ReopensShut life faulted (doubtful s u) outcome new = ReopensEither life faulted s u outcome new
ReopensShut life faulted (refused image why) outcome new =
    (((outcome ≡ Err why) ⊎ (outcome ≡ Err NoMemory)) × (new ≡ refused image why)) ⊎ ((outcome ≡ Err DeviceFault) × faulted × (new ≡ unknown))
ReopensShut life faulted unknown outcome new = new ≡ unknown

-- What a compaction would ask of the banks then: as before, where nothing was in doubt; else as the disk with this life read.
-- Nothing is known where nothing of the disk is.
abbrev pub BanksAgain : Life → Standing → Banks → Standing → Banks → Type 0
BanksAgain life before b unknown c = Unit {0}
BanksAgain life (closed a) b standing c = c ≡ b
BanksAgain life before b (opened a) c = TellsBanks (reads life.now) c
BanksAgain life before b standing c = c ≡ b

-- the disk with this life is opened, where the archive stood so, with these banks, when it was closed
abbrev pub OpensShut : Life → Standing → Banks → Ends Scene
OpensShut life before b outcome t =
    ReopensShut life (HasFailed life t.life) before outcome t.archive × BanksAgain life before b t.archive t.banks
    × LeavesReopening life t.life before t.archive

-- the archive is closed, and opened again
abbrev pub Reopens : Scene → Ends Scene
Reopens s = OpensShut s.life (shut s.archive) s.banks

-- ---- compaction

-- the archive behind a compaction, at which nobody calls yet: no entry of its history counts, and it is of version 2
abbrev pub compacted : Archive → Archive
compacted a = opened_archive a.state 0 a.desk.limit Two

-- An archive whose recordings have stopped is closed, its catalogue is written anew, and it is opened. Refused it stays
-- closed; want of memory may come behind the writing too, and a device fault leaves the state.
abbrev pub WritesAnew : Type 0 → Archive → Banks → Result Reply Refusal → Standing → Banks → Type 0
WritesAnew faulted a b (Ok reply) new c = (reply ≡ Compacted) × MayCompact b × (new ≡ opened (compacted a)) × (c ≡ next_banks b)
WritesAnew faulted a b (Err NotCatalogue) new c = (b.spare ≡ false) × (new ≡ closed a) × (c ≡ b)
WritesAnew faulted a b (Err HistoryFull) new c = (b.spare ≡ true) × (2 ^ 64 ≤ b.epoch + 1) × (new ≡ closed a) × (c ≡ b)
WritesAnew faulted a b (Err NoMemory) new c = ((new ≡ closed a) × (c ≡ b)) ⊎ (MayCompact b × (new ≡ closed (compacted a)) × (c ≡ next_banks b))
WritesAnew faulted a b (Err DeviceFault) new c = faulted × (new ≡ doubtful a.state a.state)
WritesAnew faulted a b (Err refusal) new c = ⊥

-- behind its opening
abbrev pub ThenWritesAnew : Result Reply Refusal → Scene → Ends Scene
ThenWritesAnew (Ok reply) s outcome t =
    (a : Archive) × (s.archive ≡ opened a) × WritesAnew (Faulted s t) a s.banks outcome t.archive t.banks × LeavesBetween s t
ThenWritesAnew (Err refusal) s outcome t = (outcome ≡ Err refusal) × (t ≡ s)

-- an open archive is closed and opened, which stops its recordings, closed, written anew and opened
abbrev pub CompactsOpen : Scene → Archive → Ends Scene
CompactsOpen s a outcome t = (first : Result Reply Refusal) × (mid : Scene) × Reopens s first mid × ThenWritesAnew first mid outcome t

-- what `compact` does
abbrev pub Compacts : Scene → Ends Scene
Compacts s = WhereOpen (CompactsOpen s) s.archive s

-- ---- what an exact script's archive answers

abbrev pub exact_ways : Ways Scene
exact_ways = record {
  terms = λ session old terms new. KnowsTerms old.archive session terms × (new ≡ old);
  call = Calls;
  reopen = Reopens;
  compact = Compacts;
}
