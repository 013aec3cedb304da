-- When a checkpoint is due, and what a script that makes checkpoints does before each line: docs/STORAGE.md, "Checkpoints".
use Rattle.std.specs.Prelude.{◌≡◌, ℕ, Bool, true, false, ◌&&◌, ◌-◌, ◌*◌, nat_lt, nat_le, MatchBool, Result, ◌⊎◌}
use Rattle.frame_core.specs.declared.refusal.Refusal.{Refusal}
use Rattle.disk_core.specs.declared.disk.Disk as Disk
use Rattle.disk_core.specs.Life.{Life}
use Rattle.archive_model.specs.declared.reply.Reply.{Reply}
use Rattle.archive_model.specs.Register.{active_count}
use Rattle.control_core.specs.declared.event.Event.TheVariants as events
use Rattle.control_core.specs.Desk.{DeskState}
use Rattle.engine_core.specs.Calls.{AnswersEvent}
use Rattle.engine_core.specs.Engine.{EngineState}
use Rattle.tool_core.specs.Answering.{Checkpointing, no_checkpoints}
use Rattle.tool_core.specs.declared.checkpoints.CheckpointedArchive.{CheckpointedArchive}
use Rattle.tool_core.specs.Archives.{Closed, Open, SeenArchive, archive_seen}
use Rattle.tool_core.specs.Left.{DiskLeaves}
use Rattle.tool_core.specs.ScriptLines.{Calls, Scene, Standing, opened, unknown}

-- more entries count than recordings are active, and at least half of what may count beyond those
abbrev pub is_checkpoint_due : ℕ → ℕ → ℕ → Bool
is_checkpoint_due counted active limit = nat_lt active counted && nat_le (limit - active) (2 * (counted - active))

-- so it is by the desk
abbrev pub checkpoint_due : DeskState → Bool
checkpoint_due d = is_checkpoint_due d.counted (active_count d.register) d.limit

-- what is seen of an archive of which checkpoints are made
abbrev pub checkpointed_seen : {D : Type 0} {dg : Disk.Ghosts D} → (D → Life) → CheckpointedArchive D dg → SeenArchive
checkpointed_seen life archive = archive_seen life archive.archive

-- ---- whatever the archive is

-- a checkpoint that nobody is answered, where one is due; else nothing
abbrev pub MakesDue : EngineState → EngineState → Type 0
MakesDue old new = MatchBool (checkpoint_due old.desk) ((outcome : Result Reply Refusal) × AnswersEvent old new events.Checkpoint outcome) (new ≡ old)

-- of an open archive
abbrev pub PreparesArchive : SeenArchive → SeenArchive → Type 0
PreparesArchive (Open old) (Open new) = MakesDue old new
PreparesArchive (Open old) (Closed new) = ⊥
PreparesArchive (Closed old) new = new ≡ Closed old

-- a script makes checkpoints before its lines, and is asked for them, or neither
abbrev pub script_checkpoints : Bool → Checkpointing SeenArchive
script_checkpoints true = record { offers = λ archive. true; before = PreparesArchive }
script_checkpoints false = no_checkpoints

-- ---- exactly, where the disk obeys the crash model

-- the call of a checkpoint, which nobody is answered
abbrev pub Checkpoints : Scene → Scene → Type 0
Checkpoints old new = (outcome : Result Reply Refusal) × Calls events.Checkpoint old outcome new

-- where one is due; nothing is known of an archive of which nothing is
abbrev pub ChecksDue : Standing → Scene → Scene → Type 0
ChecksDue (opened a) old new = MatchBool (checkpoint_due a.desk) (Checkpoints old new) (new ≡ old)
ChecksDue unknown old new = Checkpoints old new ⊎ (new ≡ old)
ChecksDue standing old new = new ≡ old

-- what is done before a line, where a script makes checkpoints or makes none
abbrev pub Precedes : Bool → Scene → Scene → Type 0
Precedes true old new = ChecksDue old.archive old new
Precedes false old new = new ≡ old

-- A crash before a line is answered leaves the scene then.
abbrev pub exact_checkpoints : Bool → Checkpointing Scene
exact_checkpoints makes = record { offers = λ s. makes; before = λ old new. Precedes makes old new × DiskLeaves new }
