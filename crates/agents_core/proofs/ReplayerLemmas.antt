-- A replayer's turns, one after another.
use Rattle.std.proofs.Common.{◌≡◌, ◌+◌, ◌++◌, ◌≤ℤ◌, ◌∙◌, inl, inr, ℕ, ℤ, Bool, true, false, true≢false, List, [], ◌∷◌, length, Option, Some, None, Result, Ok, Err, sym, refl, ap, subst, append_assoc, arith, length-append}
use Rattle.std.specs.Prelude.{◌⊎◌, ◌&&◌, MatchResult, is_none, not}
use Rattle.std.specs.Result.{is_err}
use Rattle.std.specs.Bool.{MatchBool}
use Rattle.std.specs.Option.{option_or}
use Rattle.std.proofs.lemmas.Int.{ints}
use Rattle.std.proofs.lemmas.List.{append-nil}
use Rattle.frame_core.specs.declared.refusal.Refusal.{Refusal}
use Rattle.disk_core.specs.Life.{Life}
use Rattle.frame_core.specs.declared.refusal.Refusal.TheVariants.{NoMemory}
use Rattle.archive_model.specs.declared.reply.PolledFrame.{PolledFrame}
use Rattle.archive_model.specs.declared.reply.Reply.{Reply}
use Rattle.archive_model.specs.declared.reply.Reply.TheVariants.{Polled}
use Rattle.archive_model.specs.Keyed.{Each}
use Rattle.control_core.specs.declared.event.Event.{Event}
use Rattle.control_core.specs.declared.event.Event.TheVariants.{ReplayPoll}
use Rattle.engine_core.specs.Engine.{EngineState}
use Rattle.call_history.specs.Values.{PassView}
use Rattle.position_board.specs.Positions.{seen_at}
use Rattle.archive_lock.specs.declared.history.Made.{Made}
use Rattle.archive_lock.specs.History.{EndsWithAnswer, IsNoted}
use Rattle.agents_core.specs.declared.replayer.Replayer.{Replayer}
use Rattle.agents_core.specs.Replayers.{FeedsSink, HasNotLooked, MakesOnePoll, ReplayerRan, RisesBetween, goes_on_after}
use Rattle.recorder_seats.specs.Poll.{frames_of_reply}
use Rattle.recorder_seats.proofs.AnswerLemmas.{IsPolledReply}
use Rattle.agents_core.proofs.RecorderLemmas.{IsNotedCall, noted_call, refused_how}
use Rattle.recorder_seats.proofs.SeatLemmas.{each_append}

-- ---- lists

rises_append : (low mid high : ℤ) (xs ys : List ℤ) → RisesBetween low xs mid → RisesBetween mid ys high → RisesBetween low (xs ++ ys) high
rises_append low mid high [] ys these those = subst (λ (x : ℤ). RisesBetween x ys high) these those
rises_append low mid high (x ∷ xs) ys these those = (these.0, rises_append x mid high xs ys these.1 those)

-- ---- results

-- what holds of a result that is refused, or that is not
pub if_err : {T E : Type 0} (A B : Type 0) (r : Result T E) → is_err r ≡ true → MatchResult r (λ _. A) (λ _. B) → B
if_err A B (Ok value) is h = absurd (true≢false (sym is))
if_err A B (Err error) is h = h

pub if_ok : {T E : Type 0} (A B : Type 0) (r : Result T E) → is_err r ≡ false → MatchResult r (λ _. A) (λ _. B) → A
if_ok A B (Ok value) is h = h
if_ok A B (Err error) is h = absurd (true≢false is)

-- ---- what a sink took

module _ {K : Type 0} (takes : K → List PolledFrame → Bool → K → Type 0) where
  -- no call follows
  abbrev IsLast : K → List Made → Bool → Option Refusal → K → Type 0
  IsLast mid calls goes_on stop new = (calls ≡ []) × (goes_on ≡ false) × (stop ≡ None) × (new ≡ mid)

  -- what a call that was answered Ok, or refused, makes of the calls after it
  abbrev AfterReply : K → List Made → Bool → Option Refusal → K → Reply → Type 0
  AfterReply old calls goes_on stop new reply = (wants_more : Bool) × (mid : K) × takes old (frames_of_reply reply) wants_more mid
      × MatchBool (goes_on_after reply wants_more) (FeedsSink takes mid calls goes_on stop new) (IsLast mid calls goes_on stop new)

  abbrev AfterOutcome : K → List Made → Bool → Option Refusal → K → Result Reply Refusal → Type 0
  AfterOutcome old calls goes_on stop new outcome = MatchResult outcome (AfterReply old calls goes_on stop new) (λ refusal. (calls ≡ []) × (goes_on ≡ false) × (stop ≡ Some refusal) × (new ≡ old))

  -- where nothing ended it, it goes on
  and_further : (goes : Bool) (mid b c : K) (xs ys : List Made) (goes_on : Bool) (stop : Option Refusal) → (FeedsSink takes mid xs true None b → FeedsSink takes mid (xs ++ ys) goes_on stop c)
      → MatchBool goes (FeedsSink takes mid xs true None b) (IsLast mid xs true None b)
      → MatchBool goes (FeedsSink takes mid (xs ++ ys) goes_on stop c) (IsLast mid (xs ++ ys) goes_on stop c)
  and_further true mid b c xs ys goes_on stop more h = more h
  and_further false mid b c xs ys goes_on stop more h = absurd (true≢false h.1)

  and_then : (outcome : Result Reply Refusal) (a b c : K) (xs ys : List Made) (goes_on : Bool) (stop : Option Refusal) → ((mid : K) → FeedsSink takes mid xs true None b → FeedsSink takes mid (xs ++ ys) goes_on stop c)
      → AfterOutcome a xs true None b outcome → AfterOutcome a (xs ++ ys) goes_on stop c outcome
  and_then (Ok reply) a b c xs ys goes_on stop more h = (h.0, h.1, h.2, and_further (goes_on_after reply h.0) h.1 b c xs ys goes_on stop (more h.1) h.3)
  and_then (Err refusal) a b c xs ys goes_on stop more h = absurd (true≢false h.1)

  feeds_append : (a b c : K) (xs ys : List Made) (goes_on : Bool) (stop : Option Refusal) → FeedsSink takes a xs true None b → FeedsSink takes b ys goes_on stop c → FeedsSink takes a (xs ++ ys) goes_on stop c
  feeds_append a b c [] ys goes_on stop these those = subst (λ (s : K). FeedsSink takes s ys goes_on stop c) these.0 those
  feeds_append a b c (x ∷ xs) ys goes_on stop these those = and_then x.outcome a b c xs ys goes_on stop (λ mid h. feeds_append mid b c xs ys goes_on stop h those) these

  -- what goes on was not refused
  further_unstopped : (goes : Bool) (mid c : K) (xs : List Made) (stop : Option Refusal) → (FeedsSink takes mid xs true stop c → stop ≡ None)
      → MatchBool goes (FeedsSink takes mid xs true stop c) (IsLast mid xs true stop c) → stop ≡ None
  further_unstopped true mid c xs stop rest h = rest h
  further_unstopped false mid c xs stop rest h = h.2

  then_unstopped : (outcome : Result Reply Refusal) (a c : K) (xs : List Made) (stop : Option Refusal) → ((mid : K) → FeedsSink takes mid xs true stop c → stop ≡ None) → AfterOutcome a xs true stop c outcome → stop ≡ None
  then_unstopped (Ok reply) a c xs stop rest h = further_unstopped (goes_on_after reply h.0) h.1 c xs stop (rest h.1) h.3
  then_unstopped (Err refusal) a c xs stop rest h = absurd (true≢false h.1)

  unstopped : (a c : K) (xs : List Made) (stop : Option Refusal) → FeedsSink takes a xs true stop c → stop ≡ None
  unstopped a c [] stop h = h.1
  unstopped a c (x ∷ xs) stop h = then_unstopped x.outcome a c xs stop (λ mid rest. unstopped mid c xs stop rest) h

  -- the last of them
  last_fed : (old mid : K) (reply : Reply) (wants_more goes : Bool) → takes old (frames_of_reply reply) wants_more mid → goes_on_after reply wants_more ≡ goes → AfterOutcome old [] goes None mid (Ok reply)
  last_fed old mid reply wants_more goes took is = (wants_more, mid, took, subst (λ (x : Bool). MatchBool x (FeedsSink takes mid [] goes None mid) (IsLast mid [] goes None mid)) (sym is) (by goes))
    where
      by : (x : Bool) → MatchBool x (FeedsSink takes mid [] x None mid) (IsLast mid [] x None mid)
      by true = (refl, refl)
      by false = (refl, refl, refl, refl)

pub both_so : (a b c : Bool) → a ≡ true → c ≡ b → a && b ≡ c
both_so a b c is same = ap (λ (x : Bool). x && b) is ∙ sym same

pub neither_so : (a b c : Bool) → a ≡ false → c ≡ a → a && b ≡ c
neither_so a b c is same = ap (λ (x : Bool). x && b) is ∙ sym is ∙ sym same

-- whether it goes on, by what the poll and the sink say
pub goes_so : (reply : Reply) (wants_more is_done : Bool) → IsPolledReply reply → ((frames : List PolledFrame) (next : Option ℤ) → reply ≡ Polled frames next → is_done ≡ is_none next) → goes_on_after reply wants_more ≡ wants_more && not is_done
goes_so reply wants_more is_done polled done =
    let is = done polled.0 polled.1 polled.2 in
    ap (λ (r : Reply). goes_on_after r wants_more) polled.2 ∙ by polled.1 ∙ ap (λ (b : Bool). wants_more && not b) (sym is)
  where
    by : (next : Option ℤ) → goes_on_after (Polled polled.0 next) wants_more ≡ wants_more && not (is_none next)
    by None = stays wants_more
      where
        stays : (b : Bool) → false ≡ b && not true
        stays true = refl
        stays false = refl
    by (Some next) = goes wants_more
      where
        goes : (b : Bool) → b ≡ b && not false
        goes true = refl
        goes false = refl

-- ---- turns and then turns

module _ {K : Type 0} (takes : K → List PolledFrame → Bool → K → Type 0) where
  -- no turn
  pub replayer_none : (r : Replayer K) → ReplayerRan takes r r true None
  replayer_none r = record {
    calls = [];
    own = sym (append-nil r.pass.own);
    polls = tt;
    taken = (refl, refl);
    added = [];
    looked = sym (append-nil r.looked.items);
    looks = inl refl;
    rising = refl;
    refused = refl;
    replay = refl;
    max = refl;
    slot = refl;
    pass = refl;
    number = refl;
    reader = refl;
  }

  -- a look that found no memory
  pub turn_unlooked : (old mid : Replayer K) → HasNotLooked old mid → ReplayerRan takes old (record mid { refused = Some NoMemory }) false (Some NoMemory)
  turn_unlooked old mid un = subst (λ (m : Replayer K). ReplayerRan takes old (record m { refused = Some NoMemory }) false (Some NoMemory)) (sym un.rest) (record {
    calls = [];
    own = sym (append-nil old.pass.own);
    polls = tt;
    taken = (refl, refl);
    added = [];
    looked = un.kept ∙ sym (append-nil old.looked.items);
    looks = inl refl;
    rising = refl;
    refused = refl;
    replay = refl;
    max = refl;
    slot = refl;
    pass = refl;
    number = refl;
    reader = refl;
  })

  -- turns, of which none was refused, and then turns
  pub replayer_more : (old mid new : Replayer K) (goes_on : Bool) (stop : Option Refusal) → ReplayerRan takes old mid true None → ReplayerRan takes mid new goes_on stop → ReplayerRan takes old new goes_on stop
  replayer_more old mid new goes_on stop a b = record {
    calls = a.calls ++ b.calls;
    own = b.own ∙ ap (λ (calls : List Made). calls ++ b.calls) a.own ∙ append_assoc old.pass.own a.calls b.calls;
    polls = each_append (λ (call : Made). call.asked ≡ ReplayPoll old.replay old.max) a.calls b.calls a.polls
        (subst (λ (e : Event). Each (λ (call : Made). call.asked ≡ e) b.calls) (λ i. ReplayPoll (a.replay i) (a.max i)) b.polls);
    taken = feeds_append takes old.sink mid.sink new.sink a.calls b.calls goes_on stop a.taken b.taken;
    added = a.added ++ b.added;
    looked = b.looked ∙ ap (λ (looked : List ℤ). looked ++ b.added) a.looked ∙ append_assoc old.looked.items a.added b.added;
    looks = both a.looks b.looks;
    rising = rises_append (seen_at old.slot old.reader) (seen_at old.slot mid.reader) (seen_at old.slot new.reader) a.added b.added a.rising
        (subst (λ (slot : ℕ). RisesBetween (seen_at slot mid.reader) b.added (seen_at slot new.reader)) a.slot b.rising);
    refused = b.refused ∙ ap (option_or stop) a.refused;
    replay = b.replay ∙ a.replay;
    max = b.max ∙ a.max;
    slot = b.slot ∙ a.slot;
    pass = b.pass ∙ a.pass;
    number = b.number ∙ a.number;
    reader = b.reader ∙ a.reader;
  }
    where
      these : length (a.added ++ b.added) ≡ length a.added + length b.added
      these = length-append a.added b.added

      those : length (a.calls ++ b.calls) ≡ length a.calls + length b.calls
      those = length-append a.calls b.calls

      both : ((length a.added ≡ length a.calls) ⊎ ((length a.added ≡ length a.calls + 1) × (None ≡ Some NoMemory))) → ((length b.added ≡ length b.calls) ⊎ ((length b.added ≡ length b.calls + 1) × (stop ≡ Some NoMemory)))
          → (length (a.added ++ b.added) ≡ length (a.calls ++ b.calls)) ⊎ ((length (a.added ++ b.added) ≡ length (a.calls ++ b.calls) + 1) × (stop ≡ Some NoMemory))
      both (inr x) y = absurd (let clash = x.1 in cc)
      both (inl x) (inl y) = inl (omega (arith, these, those))
      both (inl x) (inr y) = let more = y.0 in inr (omega (arith, these, those), y.1)

  -- a turn after which it goes on was not refused
  pub ran_on : (old new : Replayer K) (goes_on : Bool) (stop : Option Refusal) → goes_on ≡ true → ReplayerRan takes old new goes_on stop → ReplayerRan takes old new true None
  ran_on old new goes_on stop on ran =
      let further : ReplayerRan takes old new true stop = subst (λ (b : Bool). ReplayerRan takes old new b stop) on ran in
      subst (ReplayerRan takes old new true) (unstopped takes old.sink new.sink further.calls stop further.taken) further

-- ---- one turn

module _ {K : Type 0} (takes : K → List PolledFrame → Bool → K → Type 0) {D : Type 0} (life : D → Life) (opening : EngineState) (old new : Replayer K) (position : ℤ) (kept : new.looked.items ≡ old.looked.items ++ position ∷ [])
    (rises : seen_at old.slot old.reader ≤ℤ position) (now : seen_at old.slot new.reader ≡ position) (replay : new.replay ≡ old.replay) (max : new.max ≡ old.max) (slot : new.slot ≡ old.slot) (pass : new.pass.table ≡ old.pass.table)
    (number : new.pass.number ≡ old.pass.number) (reader : new.reader.table ≡ old.reader.table) where
  rising : RisesBetween (seen_at old.slot old.reader) (position ∷ []) (seen_at old.slot new.reader)
  rising = (rises, now)

  -- a poll was answered, and its frames taken
  pub turn_polled : (reply : Reply) (frames : List PolledFrame) (wants_more goes : Bool) → EndsWithAnswer life opening old.pass (ReplayPoll old.replay old.max) (Ok reply) new.pass → frames ≡ frames_of_reply reply → takes old.sink frames wants_more new.sink
      → goes_on_after reply wants_more ≡ goes → new.refused ≡ old.refused → ReplayerRan takes old new goes None
  turn_polled reply frames wants_more goes answers are took goes_so refused =
      let poll = noted_call life opening old.pass new.pass (ReplayPoll old.replay old.max) (Ok reply) answers in record {
        calls = poll.call ∷ [];
        own = poll.own;
        polls = (poll.asked, tt);
        taken = subst (AfterOutcome takes old.sink [] goes None new.sink) (sym poll.answered) (last_fed takes old.sink new.sink reply wants_more goes (subst (λ (f : List PolledFrame). takes old.sink f wants_more new.sink) are took) goes_so);
        added = position ∷ [];
        looked = kept;
        looks = inl refl;
        rising = rising;
        refused = refused;
        replay = replay;
        max = max;
        slot = slot;
        pass = pass;
        number = number;
        reader = reader;
      }

  -- a poll was refused
  pub turn_refused : (refusal : Refusal) → (IsNoted (Err refusal) → EndsWithAnswer life opening old.pass (ReplayPoll old.replay old.max) (Err refusal) new.pass) → (refusal ≡ NoMemory → new.pass ≡ old.pass) → new.sink ≡ old.sink → new.refused ≡ Some refusal
      → ReplayerRan takes old new false (Some refusal)
  turn_refused refusal answers unnoted sink refused = by (refused_how life opening old.pass new.pass (ReplayPoll old.replay old.max) refusal answers unnoted)
    where
      by : IsNotedCall old.pass (ReplayPoll old.replay old.max) (Err refusal) new.pass ⊎ ((refusal ≡ NoMemory) × (new.pass ≡ old.pass)) → ReplayerRan takes old new false (Some refusal)
      by (inl poll) = record {
        calls = poll.call ∷ [];
        own = poll.own;
        polls = (poll.asked, tt);
        taken = subst (AfterOutcome takes old.sink [] false (Some refusal) new.sink) (sym poll.answered) (refl, refl, refl, sink);
        added = position ∷ [];
        looked = kept;
        looks = inl refl;
        rising = rising;
        refused = refused;
        replay = replay;
        max = max;
        slot = slot;
        pass = pass;
        number = number;
        reader = reader;
      }
      by (inr none) = record {
        calls = [];
        own = ap (λ (p : PassView Made). p.own) none.1 ∙ sym (append-nil old.pass.own);
        polls = tt;
        taken = (sink, ap Some none.0);
        added = position ∷ [];
        looked = kept;
        looks = inr (refl, ap Some none.0);
        rising = rising;
        refused = refused;
        replay = replay;
        max = max;
        slot = slot;
        pass = pass;
        number = number;
        reader = reader;
      }

-- ---- one turn

-- a poll that was answered is one call of the pass
pub one_polled : {D : Type 0} (life : D → Life) (opening : EngineState) (p q : PassView Made) (event : Event) (outcome : Result Reply Refusal) → EndsWithAnswer life opening p event outcome q → (call : Made) × (q.own ≡ p.own ++ call ∷ [])
one_polled life opening p q event outcome ends = (ends.call, ends.extends.gains.own)

-- one that was refused too, unless there was no memory for it
pub one_refused : {D : Type 0} (life : D → Life) (opening : EngineState) (p q : PassView Made) (event : Event) (refusal : Refusal) → (IsNoted (Err refusal) → EndsWithAnswer life opening p event (Err refusal) q) → (refusal ≡ NoMemory → q ≡ p)
    → ((call : Made) × (q.own ≡ p.own ++ call ∷ [])) ⊎ ((q.own ≡ p.own) × (Some refusal ≡ Some NoMemory))
one_refused life opening p q event refusal answers unnoted = by (refused_how life opening p q event refusal answers unnoted)
  where
    by : IsNotedCall p event (Err refusal) q ⊎ ((refusal ≡ NoMemory) × (q ≡ p)) → ((call : Made) × (q.own ≡ p.own ++ call ∷ [])) ⊎ ((q.own ≡ p.own) × (Some refusal ≡ Some NoMemory))
    by (inl noted) = inl (noted.call, noted.own)
    by (inr none) = inr (ap (λ (v : PassView Made). v.own) none.1, ap Some none.0)

-- none was made where there was no memory to look
pub no_poll : {K : Type 0} (old mid : Replayer K) → HasNotLooked old mid → MakesOnePoll old (record mid { refused = Some NoMemory })
no_poll {K} old mid un = inr (ap (λ (m : Replayer K). m.pass.own) un.rest, refl)
