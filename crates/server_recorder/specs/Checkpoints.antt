-- Checkpoints by the thread that records: docs/SERVING.md, "How long a history lasts".
use Rattle.std.specs.Prelude.{◌≡◌, ◌&&◌, ◌||◌, ◌⊎◌, ℕ, not, nat_lt, Bool, true, false, Option, Some, Result}
use Rattle.frame_core.specs.declared.refusal.Refusal.{Refusal}
use Rattle.disk_core.specs.Life.{Life}
use Rattle.archive_model.specs.declared.reply.Reply.{Reply}
use Rattle.archive_model.specs.declared.version.BankVersion.{BankVersion}
use Rattle.archive_model.specs.declared.version.BankVersion.TheVariants.{One, Two}
use Rattle.control_core.specs.declared.event.Event.TheVariants.{Checkpoint}
use Rattle.engine_core.specs.Engine.{EngineState}
use Rattle.archive_lock.specs.declared.standing.Standing.{Standing}
use Rattle.archive_lock.specs.Standing.{standing_of}
use Rattle.tool_core.specs.Checkpoints.{is_checkpoint_due}
use Rattle.server_recorder.specs.Opening.{is_past}
use Rattle.server_recorder.specs.Seats.{MakesCall, SeatsView, SeesAt}
use Rattle.server_recorder.specs.Settling.{sooner}

-- milliseconds for which the thread may wait: a second at most while a full history is to be made short
abbrev pub wait_while : Bool → Option ℕ → Option ℕ
wait_while true wait = sooner wait (Some 1000)
wait_while false wait = wait

-- ---- where an archive stands

-- a checkpoint is due, and no write has failed
abbrev pub is_checkpoint_wanted : Standing → Bool
is_checkpoint_wanted s = not s.is_broken && is_checkpoint_due s.counted s.active s.limit

-- more entries count than a checkpoint leaves, and no write has failed
abbrev pub is_long : Standing → Bool
is_long s = nat_lt s.active s.counted && not s.is_broken

abbrev pub is_version_one : BankVersion → Bool
is_version_one One = true
is_version_one Two = false

-- a checkpoint is worthwhile where a server begins: an entry counts, or the bank is of version 1
abbrev pub is_worthwhile : Standing → Bool
is_worthwhile s = nat_lt 0 s.counted || is_version_one s.version

-- ---- what the pass of the seats does

module _ {D : Type 0} (life : D → Life) (opening : EngineState) where
  -- it makes a checkpoint
  abbrev pub MakesCheckpoint : SeatsView → SeatsView → Type 0
  MakesCheckpoint old new = (result : Result Reply Refusal × Option Standing) × MakesCall life opening Checkpoint old result new

  -- it makes one where this holds, or nothing
  abbrev pub MayCheckpoint : Bool → SeatsView → SeatsView → Type 0
  MayCheckpoint may old new = (new ≡ old) ⊎ ((may ≡ true) × MakesCheckpoint old new)

  -- it sees where the archive stands, and then may make one where this holds of that
  pub record LooksFirst (may : Standing → Bool) (old new : SeatsView) : Type 0 where
    pub standing : Standing
    pub seen : SeatsView
    pub sees : SeesAt opening (λ d. standing ≡ standing_of d) old seen
    pub made : MayCheckpoint (may standing) seen new

  -- it looks at a history that may be too long, where the last try was a second ago or nobody knows when, and notes the time; or nothing
  abbrev pub Retries : Option ℕ → Option ℕ → SeatsView → SeatsView → Type 0
  Retries tried now old new = ((now ≡ tried) × (new ≡ old)) ⊎ ((is_past 1000 tried now ≡ true) × LooksFirst is_long old new)
