-- Which files a call may change, what of them, and by how many calls of the disk: docs/ARCHITECTURE.md, "The engine".
use Rattle.std.specs.Prelude.{◌≡◌, ◌≢◌, ◌⊎◌, ◌+◌, ◌≤◌, ◌≤ℤ◌, ℤ, Contains, IfSome, IsSomeAnd, IsErrOf, Bool, true, false, List, length, Option, Some, None, is_some, Result, ◌||◌, MatchOption, unsigned_abs}
use Rattle.disk_core.specs.declared.file_id.FileId.{FileId}
use Rattle.disk_core.specs.declared.file_id.FileId.TheVariants.{BankA, BankB}
use Rattle.disk_core.specs.DiskImage.{reads}
use Rattle.disk_core.specs.Life.{IsQuiet, Life, moment}
use Rattle.disk_core.specs.Standing.{KeepsBelow}
use Rattle.frame_core.specs.declared.block.Block.{Block}
use Rattle.frame_core.specs.declared.refusal.Refusal.{Refusal}
use Rattle.frame_core.specs.declared.refusal.Refusal.TheVariants.{NoMemory}
use Rattle.segment_store.specs.Layout.{file_of, offset_of}
use Rattle.segment_store.specs.Stale.{SweepsAtMost}
use Rattle.archive_model.specs.declared.registration.Registration.{Registration}
use Rattle.archive_model.specs.declared.reply.Reply.{Reply}
use Rattle.archive_model.specs.Register.{registration_in}
use Rattle.catalogue_log.specs.Banks.{bank_file, other_of}
use Rattle.recording_reads.specs.Recording.{layout_of}
use Rattle.control_core.specs.declared.callers.RecorderSession.{RecorderSession}
use Rattle.control_core.specs.declared.callers.Written.{Written}
use Rattle.control_core.specs.declared.event.Event.{Event}
use Rattle.control_core.specs.declared.event.Event.TheVariants as events
use Rattle.control_core.specs.Decisions.{command_in, decision_of, takes_memory}
use Rattle.control_core.specs.Desk.{DeskState}
use Rattle.control_core.specs.Exact.{has_blocks}
use Rattle.control_core.specs.Turns.{session_in, settle_decision}
use Rattle.engine_core.specs.Engine.{EngineState}
use Rattle.engine_core.specs.Moves.{ChangesThese, registered_keeps}

-- the recording that a session writes
abbrev pub written_by : DeskState → Option RecorderSession → Option Registration
written_by d None = None
written_by d (Some s) = registration_in d.register s.recording

-- the segment file of a position of it
abbrev pub IsSegmentAt : DeskState → ℤ → ℤ → FileId → Type 0
IsSegmentAt d session position file =
    IsSomeAnd (written_by d (session_in d session)) (λ g. file ≡ file_of (layout_of g.descriptor) (unsigned_abs position))

-- what a session wrote begins in this file
abbrev pub IsSettledFile : DeskState → ℤ → FileId → Type 0
IsSettledFile d session file =
    IsSomeAnd (session_in d session) (λ s. IsSomeAnd s.written (λ (w : Written). IsSegmentAt d session w.first file))

-- A block was written at or behind the recorded position of its recording, or nothing was: below it its segment file reads
-- as before, and nothing of it becomes unsynced.
pub record WritesBlock (d : DeskState) (session : ℤ) (block : Block) (old new : Life) : Type 0 where
  pub changes : ChangesThese (IsSegmentAt d session block.position) 1 old new
  pub keeps : IfSome (written_by d (session_in d session)) (λ g.
      KeepsBelow (offset_of (layout_of g.descriptor) (unsigned_abs block.position))
      (old.now (file_of (layout_of g.descriptor) (unsigned_abs block.position)))
      (new.now (file_of (layout_of g.descriptor) (unsigned_abs block.position))))
  pub behind : IsQuiet old new ⊎ IsSomeAnd (written_by d (session_in d session)) (λ g. g.recorded ≤ℤ block.position)

-- Blocks were recorded, or nothing: each segment file reads as before.
pub record SettlesBlocks (e : EngineState) (session : ℤ) (new : Life) : Type 0 where
  pub changes : ChangesThese (λ file. IsSettledFile e.desk session file ⊎ (file ≡ bank_file e.log.bank)) 5 e.life new
  pub segments : (file : FileId) → file ≢ BankA → file ≢ BankB → reads new.now file ≡ reads e.life.now file

-- what one of these sessions wrote begins in this file
abbrev pub IsSettledAmong : DeskState → List ℤ → FileId → Type 0
IsSettledAmong d sessions file = (session : ℤ) × Contains sessions session × IsSettledFile d session file

-- Blocks of these sessions were recorded, or nothing: each segment file reads as before.
pub record SettlesEach (e : EngineState) (sessions : List ℤ) (new : Life) : Type 0 where
  pub changes : ChangesThese (λ file. IsSettledAmong e.desk sessions file ⊎ (file ≡ bank_file e.log.bank)) (length sessions + 4) e.life new
  pub segments : (file : FileId) → file ≢ BankA → file ≢ BankB → reads new.now file ≡ reads e.life.now file

-- A request changes the bank in use, where it leads to a command; a write its file, a settling that and the bank; a sweep at
-- most the first stale file; a checkpoint the bank that is not in use; each other call nothing.
abbrev pub Touches : EngineState → Event → Life → Type 0
Touches e (events.Ask request) new =
    MatchOption (command_in (decision_of e.desk request)) (IsQuiet e.life new) (λ c. ChangesThese (λ file. file ≡ bank_file e.log.bank) 4 e.life new)
Touches e (events.Write session block) new = WritesBlock e.desk session block e.life new
Touches e (events.Settle session) new = SettlesBlocks e session new
Touches e (events.SettleAll sessions) new = SettlesEach e sessions new
Touches e events.Checkpoint new = ChangesThese (λ file. file ≡ bank_file (other_of e.log.bank)) 7 e.life new
Touches e events.Sweep new =
    IsQuiet e.life new ⊎ ((file : FileId) × SweepsAtMost (registered_keeps e.desk.register) file e.life new × (moment new ≤ moment e.life + 2))
Touches e (events.ReplayOpen id position size) new = IsQuiet e.life new
Touches e (events.ReplayPoll number most) new = IsQuiet e.life new
Touches e (events.ReplayPollTo number most limit) new = IsQuiet e.life new
Touches e (events.ReplayClose number) new = IsQuiet e.life new
Touches e (events.Verify id) new = IsQuiet e.life new

-- ---- memory

-- a call that takes memory, if it comes that far: a start, a list, an entry, several sessions' positions, a replay, frames that
-- are read, a listing of files, a checkpoint; a write and the closing of a replay take none
abbrev pub takes : DeskState → Event → Bool
takes d (events.Ask request) = takes_memory request || is_some (command_in (decision_of d request))
takes d (events.Write session block) = false
takes d (events.Settle session) = has_blocks (settle_decision d session)
takes d (events.SettleAll sessions) = true
takes d events.Checkpoint = true
takes d (events.ReplayOpen id position size) = true
takes d (events.ReplayPoll number most) = true
takes d (events.ReplayPollTo number most limit) = true
takes d (events.ReplayClose number) = false
takes d events.Sweep = true
takes d (events.Verify id) = true

-- memory was wanting for a call that takes some
abbrev pub WantsMemory : DeskState → Event → Result Reply Refusal → Type 0
WantsMemory d event outcome = IsErrOf outcome NoMemory → takes d event ≡ true
