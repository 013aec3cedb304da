-- A turn of a bounded replayer gives what its poll was answered.
use Rattle.std.proofs.Common.{◌≡◌, ◌∙◌, ℤ, List, Option, Some, Result, Ok, sym, ap, subst}
use Rattle.std.specs.Prelude.{◌<ℤ◌, IsErrOf, is_none}
use Rattle.frame_core.specs.declared.refusal.Refusal.{Refusal}
use Rattle.disk_core.specs.Life.{Life}
use Rattle.frame_core.specs.declared.refusal.Refusal.TheVariants.{NoMemory}
use Rattle.archive_model.specs.declared.reply.PolledFrame.{PolledFrame}
use Rattle.archive_model.specs.declared.reply.Reply.{Reply}
use Rattle.archive_model.specs.declared.reply.Reply.TheVariants as replies
use Rattle.archive_model.specs.Keyed.{Each}
use Rattle.control_core.specs.declared.event.Event.TheVariants.{ReplayPollTo}
use Rattle.engine_core.specs.Calls.{IsHeldBack}
use Rattle.engine_core.specs.Engine.{EngineState}
use Rattle.call_history.specs.Values.{PassView}
use Rattle.archive_lock.specs.declared.history.Made.{Made}
use Rattle.archive_lock.specs.History.{EndsWithAnswer, IsNoted}
use Rattle.recorder_seats.specs.declared.bounded.Turn.{Turn}
use Rattle.recorder_seats.specs.Bounded.{IsTurnOf}
use Rattle.recorder_seats.specs.Poll.{frames_of_reply}
use Rattle.recorder_seats.proofs.AnswerLemmas.{IsPolledReply, poll_told}

-- the poll's frames begin before its limit
pub before_limit : (number most limit : ℤ) (reply : Reply) (frames : List PolledFrame) → IsPolledReply reply → IsHeldBack (ReplayPollTo number most limit) (Ok reply) → frames ≡ frames_of_reply reply
    → Each (λ (f : PolledFrame). f.position <ℤ limit) frames
before_limit number most limit reply frames polled held are =
    subst (λ (fs : List PolledFrame). Each (λ (f : PolledFrame). f.position <ℤ limit) fs) (sym (are ∙ ap frames_of_reply polled.2)) (subst (λ (r : Reply). IsHeldBack (ReplayPollTo number most limit) (Ok r)) polled.2 held)

-- the answer that the turn gives
pub turn_answer : {D : Type 0} (life : D → Life) (opening : EngineState) (p q : PassView Made) (number most limit : ℤ) (reply : Reply) (turn : Turn) → (IsNoted (Ok reply) → EndsWithAnswer life opening p (ReplayPollTo number most limit) (Ok reply) q) → turn.frames ≡ frames_of_reply reply
    → ((frames : List PolledFrame) (next : Option ℤ) → reply ≡ replies.Polled frames next → turn.ended ≡ is_none next)
    → (outcome : Result Reply Refusal) × IsTurnOf outcome (Ok turn) × (IsNoted outcome → EndsWithAnswer life opening p (ReplayPollTo number most limit) outcome q) × (IsErrOf outcome NoMemory → q ≡ p)
turn_answer life opening p q number most limit reply turn answers frames done =
    let polled : IsPolledReply reply = poll_told life opening p q number most (Some limit) (Ok reply) answers in (
      Ok (replies.Polled polled.0 polled.1),
      (frames ∙ ap frames_of_reply polled.2, done polled.0 polled.1 polled.2),
      λ noted. subst (λ (r : Reply). EndsWithAnswer life opening p (ReplayPollTo number most limit) (Ok r) q) polled.2 (answers tt),
      λ none. absurd (let clash = none in cc),
    )
