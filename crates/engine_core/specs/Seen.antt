-- What a call says of the engine that it was made on.
use Rattle.std.specs.Prelude.{Result}
use Rattle.disk_core.specs.declared.disk.Disk as Disk
use Rattle.disk_core.specs.Life.{Life}
use Rattle.frame_core.specs.declared.refusal.Refusal.{Refusal}
use Rattle.archive_model.specs.declared.reply.Reply.{Reply}
use Rattle.control_core.specs.declared.event.Event.{Event}
use Rattle.engine_core.specs.declared.engine.Engine.{Engine}
use Rattle.engine_core.specs.declared.stored.StoredArchive.{StoredArchive}
use Rattle.engine_core.specs.Engine.{EngineState}
use Rattle.engine_core.specs.Calls.{AnswersEvent, EndsEvent}

module _ {D : Type 0} (life : D → Life) where
  -- an archive beside the pages that are kept of it, as its calls see it
  abbrev pub state_of : StoredArchive D → EngineState
  state_of a = record { life = life a.storage.disk; log = a.storage.log; desk = a.desk.state }

  -- a call ended so
  abbrev pub HasEnded : StoredArchive D → StoredArchive D → Event → Result Reply Refusal → Type 0
  HasEnded old new event result = EndsEvent (state_of old) (state_of new) event result

module _ {D : Type 0} {dg : Disk.Ghosts D} (life : D → Life) where
  -- the engine as its calls see it
  abbrev pub seen : Engine D dg → EngineState
  seen e = state_of life e.archive

  -- the engine answered an event
  abbrev pub HasAnswered : Engine D dg → Engine D dg → Event → Result Reply Refusal → Type 0
  HasAnswered old new event result = AnswersEvent (seen old) (seen new) event result
