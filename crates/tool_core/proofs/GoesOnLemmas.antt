-- The disk of a script's archive goes on: what it obeyed at a line's end it obeyed before.
use Rattle.std.proofs.Common.{◌≡◌, Bool, true, false, sym, subst, inl, inr, arith}
use Rattle.std.specs.Prelude.{MatchBool, Result, Ok, Err}
use Rattle.frame_core.specs.declared.refusal.Refusal.{Refusal}
use Rattle.disk_core.specs.Life.{HasFailed, Life}
use Rattle.archive_model.specs.declared.reply.Reply.{Reply}
use Rattle.control_core.specs.declared.event.Event.{Event}
use Rattle.control_core.specs.declared.event.Event.TheVariants as events
use Rattle.engine_core.specs.Calls.{AnswersEvent}
use Rattle.engine_core.specs.Engine.{DiskGoesOn, EngineState}
use Rattle.tool_core.specs.Archives.{CallsEngine, Closed, CompactsArchive, CompactsDisk, HasCompacted, Open, OpensDisk, SeenArchive, life_of}
use Rattle.tool_core.specs.Checkpoints.{PreparesArchive, checkpoint_due, script_checkpoints}

pub no_calls : (life : Life) → DiskGoesOn life life
no_calls life = record { obeyed = λ obeys. obeys; faults = omega arith }

pub goes_further : (old mid new : Life) → DiskGoesOn old mid → DiskGoesOn mid new → DiskGoesOn old new
goes_further old mid new first later = record {
  obeyed = λ obeys. first.obeyed (later.obeyed obeys);
  faults = let up = first.faults in let more = later.faults in omega (arith, up, more);
}

-- a fault of the later part is one of the whole
pub failed_later : (old mid new : Life) → DiskGoesOn old mid → HasFailed mid new → HasFailed old new
failed_later old mid new first failed = let up = first.faults in omega (arith, up, failed)

pub same_goes : (old new : SeenArchive) → new ≡ old → DiskGoesOn (life_of old) (life_of new)
same_goes old new same = subst (λ (x : SeenArchive). DiskGoesOn (life_of old) (life_of x)) (sym same) (no_calls (life_of old))

pub calls_go_on : (event : Event) (old : SeenArchive) (outcome : Result Reply Refusal) (new : SeenArchive) → CallsEngine event old outcome new → DiskGoesOn (life_of old) (life_of new)
calls_go_on event (Open old) outcome (Open new) answered = answered.ends.goes_on
calls_go_on event (Open old) outcome (Closed disk) answered = absurd answered
calls_go_on event (Closed disk) outcome new answered = same_goes (Closed disk) new answered.1

pub opens_go_on : (old : Life) (outcome : Result Reply Refusal) (new : SeenArchive) → OpensDisk old outcome new → DiskGoesOn old (life_of new)
opens_go_on old (Ok reply) (Open engine) opens = let opened = opens.2 in opened.goes_on
opens_go_on old (Ok reply) (Closed disk) opens = absurd opens
opens_go_on old (Err refusal) (Open engine) opens = absurd opens
opens_go_on old (Err refusal) (Closed disk) opens = opens.goes_on

done_goes_on : (old new : Life) → HasCompacted old new → DiskGoesOn old new
done_goes_on old new compacted = goes_further old compacted.engine.life new compacted.opened.goes_on compacted.anew.goes_on

disk_goes_on : (old : Life) (outcome : Result Reply Refusal) (new : SeenArchive) → CompactsDisk old outcome new → DiskGoesOn old (life_of new)
disk_goes_on old (Ok reply) (Open engine) (is, disk, compacted, stopped, opens) = goes_further old disk engine.life (done_goes_on old disk compacted) opens.goes_on
disk_goes_on old (Ok reply) (Closed back) compacts = absurd compacts
disk_goes_on old (Err refusal) (Open engine) compacts = absurd compacts
disk_goes_on old (Err refusal) (Closed back) (inl (inl closed)) = closed.goes_on
disk_goes_on old (Err refusal) (Closed back) (inl (inr refuses)) = goes_further old refuses.engine.life back refuses.opened.goes_on refuses.refused.goes_on
disk_goes_on old (Err refusal) (Closed back) (inr (disk, compacted, closed)) = goes_further old disk back (done_goes_on old disk compacted) closed.goes_on

pub compacts_go_on : (old : SeenArchive) (outcome : Result Reply Refusal) (new : SeenArchive) → CompactsArchive old outcome new → DiskGoesOn (life_of old) (life_of new)
compacts_go_on (Open engine) outcome new compacts = disk_goes_on engine.life outcome new compacts
compacts_go_on (Closed disk) outcome new (answer, same) = same_goes (Closed disk) new same

-- ---- checkpoints

due_goes_on : (due : Bool) (old new : EngineState) → MatchBool due ((outcome : Result Reply Refusal) × AnswersEvent old new events.Checkpoint outcome) (new ≡ old) → DiskGoesOn old.life new.life
due_goes_on true old new (outcome, answers) = answers.ends.goes_on
due_goes_on false old new same = subst (λ (e : EngineState). DiskGoesOn old.life e.life) (sym same) (no_calls old.life)

archive_goes_on : (old new : SeenArchive) → PreparesArchive old new → DiskGoesOn (life_of old) (life_of new)
archive_goes_on (Open old) (Open new) prepares = due_goes_on (checkpoint_due old.desk) old new prepares
archive_goes_on (Open old) (Closed disk) prepares = absurd prepares
archive_goes_on (Closed disk) new same = same_goes (Closed disk) new same

pub before_goes_on : (makes : Bool) (old new : SeenArchive) → (script_checkpoints makes).before old new → DiskGoesOn (life_of old) (life_of new)
before_goes_on true old new prepares = archive_goes_on old new prepares
before_goes_on false old new same = same_goes old new same
