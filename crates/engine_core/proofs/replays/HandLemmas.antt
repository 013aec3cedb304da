-- How the frames of a poll are handed on, and copied.
use Rattle.std.proofs.Common.{◌≡◌, ◌⊎◌, ◌∙◌, inl, sym, ap, refl, List, [], ◌∷◌, ◌++◌, append-nil, append_assoc, ℤ, ◌<ℤ◌}
use Rattle.std.specs.Prelude.{IsTrue, Option, Some, None, Result, Ok, Err}
use Rattle.frame_core.specs.declared.frame.Frame.{Frame}
use Rattle.archive_model.specs.declared.reply.PolledFrame.{PolledFrame}
use Rattle.archive_model.specs.declared.reply.Reply.TheVariants.{Polled}
use Rattle.control_core.specs.Exact.{poll_event}
use Rattle.control_core.specs.Turns.{held_to}
use Rattle.control_core.proofs.FoundLemmas.{each_weaker}
use Rattle.control_core.proofs.PollEventLemmas.{before_limit}
use Rattle.recording_reads.specs.Handing.{BeginBy, TakesEach, TakesSome}
use Rattle.engine_core.proofs.Words.{EndsEvent, EngineState, IsQuiet, KeepsFound, Refusal, Reply, poll_decision, reads}
use Rattle.engine_core.specs.Calls.{AnswersEvent, IsHeldBack}
use Rattle.engine_core.specs.Shown.{PollsDecided}
use Rattle.engine_core.specs.declared.replay_poll.PlacedCopies.{PlacedCopies}

-- what a poll is answered by
pub poll_answers : (old new : EngineState) (number most : ℤ) (limit : Option ℤ) (outcome : Result Reply Refusal) → EndsEvent old new (poll_event number most limit) outcome
    → (IsTrue new.life.obeys → PollsDecided (reads old.life.now) old.desk (poll_decision old.desk number most limit) most limit outcome) → IsQuiet old.life new.life → IsHeldBack (poll_event number most limit) outcome → KeepsFound old new old.desk.register
    → AnswersEvent old new (poll_event number most limit) outcome
poll_answers old new number most None outcome ends shows quiet held catalogue = record { ends = ends; shows = shows; touches = quiet; held = held; catalogue = catalogue }
poll_answers old new number most (Some limit) outcome ends shows quiet held catalogue = record { ends = ends; shows = shows; touches = quiet; held = held; catalogue = catalogue }

pub refused_held : (number most : ℤ) (limit : Option ℤ) (refusal : Refusal) → IsHeldBack (poll_event number most limit) (Err refusal)
refused_held number most None refusal = tt
refused_held number most (Some limit) refusal = tt

pub given_held : (number most : ℤ) (limit : Option ℤ) (bound : ℤ) (frames : List PolledFrame) (next : Option ℤ) → BeginBy (held_to limit bound) frames → IsHeldBack (poll_event number most limit) (Ok (Polled frames next))
given_held number most None bound frames next begin = tt
given_held number most (Some limit) bound frames next begin = each_weaker (λ f. f.position <ℤ held_to (Some limit) bound) (λ f. f.position <ℤ limit) frames (λ f. before_limit limit bound f.position) begin

-- nothing was taken
pub takes_none : {T : Type 0} (takes : T → ℤ → Frame → T → Type 0) (leaves : T → T → Type 0) (taker : T) → TakesSome takes leaves taker taker
takes_none takes leaves taker = record { frames = []; last = taker; taken = refl; left = inl refl }

-- what copies of a frame, with where it begins, are beside those that were there
abbrev pub places : PlacedCopies → ℤ → Frame → PlacedCopies → Type 0
places old at frame new = new.frames.items ≡ old.frames.items ++ record { position = at; frame = frame } ∷ []

-- copies of frames that were taken one after another are these frames
pub copies_taken : (frames : List PolledFrame) (old new : PlacedCopies) → TakesEach places old frames new → new.frames.items ≡ old.frames.items ++ frames
copies_taken [] old new is = ap (λ (t : PlacedCopies). t.frames.items) is ∙ sym (append-nil old.frames.items)
copies_taken (f ∷ fs) old new (mid, took, rest) = copies_taken fs mid new rest ∙ ap (λ (xs : List PolledFrame). xs ++ fs) took ∙ append_assoc old.frames.items (f ∷ []) fs

-- where there were none before
pub all_taken : (frames : List PolledFrame) (old new : PlacedCopies) → TakesEach places old frames new → old.frames.items ≡ [] → new.frames.items ≡ frames
all_taken frames old new taken none = copies_taken frames old new taken ∙ ap (λ (xs : List PolledFrame). xs ++ frames) none
