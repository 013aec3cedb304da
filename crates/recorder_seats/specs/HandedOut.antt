-- How far what a bounded replayer hands out is durable in the archive that it follows: docs/ARCHITECTURE.md, "The board".
use Rattle.std.specs.Prelude.{◌≡◌, ◌++◌, ℤ, List, ◌∷◌, Ok}
use Rattle.archive_model.specs.Replay.{EndBy, placed_frames}
use Rattle.archive_model.specs.declared.reply.Reply.TheVariants.{Settled}
use Rattle.control_core.specs.declared.event.Event.TheVariants.{Settle}
use Rattle.control_core.specs.Exact.{Archive}
use Rattle.engine_core.specs.Engine.{EngineState}
use Rattle.archive_lock.specs.Durable.{StaysSettled}
use Rattle.archive_lock.specs.History.{Member}
use Rattle.recorder_seats.specs.Bench.{SettlesTo}

-- A position is durable in an archive, by the calls of its history: one of them settled a session up to it, and that stays in
-- every image that a crash may leave. Each frame that the recording had then ends at or before the position.
pub record IsDurableTo (a : Archive) (members : List Member) (now : EngineState) (position : ℤ) : Type 0 where
  pub front : List Member
  pub call : Member
  pub back : List Member
  pub among : members ≡ front ++ call ∷ back
  pub session : ℤ
  pub asked : call.1.asked ≡ Settle session
  pub answered : call.1.outcome ≡ Ok (Settled position)
  pub stays : StaysSettled a front call.1 back session position now
  pub frames : EndBy position (placed_frames stays.recording)

-- A position is durable in an archive, by the calls of its history, as one that a bench hands out: one of them settled a session up
-- to it, alone or with others.
pub record IsGroupDurableTo (a : Archive) (members : List Member) (now : EngineState) (position : ℤ) : Type 0 where
  pub front : List Member
  pub call : Member
  pub back : List Member
  pub among : members ≡ front ++ call ∷ back
  pub session : ℤ
  pub settles : SettlesTo call.1 session position
  pub stays : StaysSettled a front call.1 back session position now
  pub frames : EndBy position (placed_frames stays.recording)
