-- What a replayer did: docs/ARCHITECTURE.md, "Agents".
use Rattle.std.specs.Prelude.{◌≡◌, ◌⊎◌, ◌+◌, ◌++◌, ◌≤ℤ◌, ℤ, Bool, false, List, [], ◌∷◌, length, Option, Some, None, MatchResult}
use Rattle.std.specs.Bool.{MatchBool}
use Rattle.std.specs.Option.{option_or}
use Rattle.frame_core.specs.declared.refusal.Refusal.{Refusal}
use Rattle.frame_core.specs.declared.refusal.Refusal.TheVariants.{NoMemory}
use Rattle.archive_model.specs.declared.reply.PolledFrame.{PolledFrame}
use Rattle.archive_model.specs.declared.reply.Reply.{Reply}
use Rattle.archive_model.specs.declared.reply.Reply.TheVariants.{Polled}
use Rattle.archive_model.specs.Keyed.{Each}
use Rattle.control_core.specs.declared.event.Event.TheVariants.{ReplayPoll}
use Rattle.position_board.specs.Positions.{seen_at}
use Rattle.archive_lock.specs.declared.history.Made.{Made}
use Rattle.recorder_seats.specs.Poll.{frames_of_reply}
use Rattle.agents_core.specs.declared.replayer.Replayer.{Replayer}

-- whether a replayer goes on after a poll: its replay is not done, and its sink wants more
abbrev pub goes_on_after : Reply → Bool → Bool
goes_on_after (Polled frames (Some next)) wants_more = wants_more
goes_on_after reply wants_more = false

module _ {K : Type 0} (takes : K → List PolledFrame → Bool → K → Type 0) where
  -- Polls, one after another, whose frames a sink took, from a state of the sink to another; whether a further poll may follow,
  -- and what refused one, if something did. A poll that is answered done, whose frames the sink answers by false, or that is
  -- refused, is the last one. Where there is no memory for a further one, that is the refusal.
  abbrev pub FeedsSink : K → List Made → Bool → Option Refusal → K → Type 0
  FeedsSink old [] goes_on stop new = (new ≡ old) × MatchBool goes_on (stop ≡ None) (stop ≡ Some NoMemory)
  FeedsSink old (call ∷ calls) goes_on stop new = MatchResult call.outcome
      (λ reply. (wants_more : Bool) × (mid : K) × takes old (frames_of_reply reply) wants_more mid
      × MatchBool (goes_on_after reply wants_more) (FeedsSink mid calls goes_on stop new) ((calls ≡ []) × (goes_on ≡ false) × (stop ≡ None) × (new ≡ mid)))
      (λ refusal. (calls ≡ []) × (goes_on ≡ false) × (stop ≡ Some refusal) × (new ≡ old))

-- positions that never fall, from one on, and the last of them; that one itself if there are none
abbrev pub RisesBetween : ℤ → List ℤ → ℤ → Type 0
RisesBetween low [] high = high ≡ low
RisesBetween low (x ∷ xs) high = (low ≤ℤ x) × RisesBetween x xs high

-- What a replayer did, whether it may go on, and what refused it, if something did: its pass gained polls of its replay, and
-- its sink took the frames of those that were answered Ok, and no others. No poll follows one that ends the replayer. For each poll
-- it looked at its slot once, and kept the position: those are all that its reader saw there, in order. Its pass keeps its number.
pub record ReplayerRan {K : Type 0} (takes : K → List PolledFrame → Bool → K → Type 0) (old new : Replayer K) (goes_on : Bool) (stop : Option Refusal) : Type 0 where
  pub calls : List Made
  pub own : new.pass.own ≡ old.pass.own ++ calls
  pub polls : Each (λ (call : Made). call.asked ≡ ReplayPoll old.replay old.max) calls
  pub taken : FeedsSink takes old.sink calls goes_on stop new.sink
  pub added : List ℤ
  pub looked : new.looked.items ≡ old.looked.items ++ added
  pub looks : (length added ≡ length calls) ⊎ ((length added ≡ length calls + 1) × (stop ≡ Some NoMemory))
  pub rising : RisesBetween (seen_at old.slot old.reader) added (seen_at old.slot new.reader)
  pub refused : new.refused ≡ option_or stop old.refused
  pub replay : new.replay ≡ old.replay
  pub max : new.max ≡ old.max
  pub slot : new.slot ≡ old.slot
  pub pass : new.pass.table ≡ old.pass.table
  pub number : new.pass.number ≡ old.pass.number
  pub reader : new.reader.table ≡ old.reader.table

-- A replayer looked at its slot once, and kept the position, which its reader saw. But for that it is as it was before the look:
-- it made no call in between.
pub record HasLooked {K : Type 0} (old new : Replayer K) : Type 0 where
  pub position : ℤ
  pub kept : new.looked.items ≡ old.looked.items ++ position ∷ []
  pub rises : seen_at new.slot old.reader ≤ℤ position
  pub seen : seen_at new.slot new.reader ≡ position
  pub reader : new.reader.table ≡ old.reader.table
  pub rest : old ≡ record new { reader = old.reader; looked = old.looked }

-- It did not look: it is as it was, but for room that it may have made.
pub record HasNotLooked {K : Type 0} (old new : Replayer K) : Type 0 where
  pub kept : new.looked.items ≡ old.looked.items
  pub rest : new ≡ record old { looked = new.looked }

-- One turn made one poll; or none for want of memory, which is kept.
abbrev pub MakesOnePoll : {K : Type 0} → Replayer K → Replayer K → Type 0
MakesOnePoll old new = ((call : Made) × (new.pass.own ≡ old.pass.own ++ call ∷ [])) ⊎ ((new.pass.own ≡ old.pass.own) × (new.refused ≡ Some NoMemory))

-- a replayer has ended
pub record ReplayerEnded {K : Type 0} (takes : K → List PolledFrame → Bool → K → Type 0) (old new : Replayer K) : Type 0 where
  pub goes_on : Bool
  pub stop : Option Refusal
  pub ran : ReplayerRan takes old new goes_on stop
