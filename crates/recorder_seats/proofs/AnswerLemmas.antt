-- What the desk machine may answer to a settling and to a poll, and so the last call of a legal history.
use Rattle.std.proofs.Common.{◌≡◌, inl, inr, ◌++◌, ℤ, Bool, true, false, List, [], ◌∷◌, Option, Some, None, Result, Ok, Err, sym, refl, ap, subst}
use Rattle.std.specs.Prelude.{IfOk, MatchBool, ⊤}
use Rattle.frame_core.specs.declared.refusal.Refusal.{Refusal}
use Rattle.disk_core.specs.Life.{Life}
use Rattle.archive_model.specs.declared.registration.Registration.{Registration}
use Rattle.archive_model.specs.declared.reply.PolledFrame.{PolledFrame}
use Rattle.archive_model.specs.declared.reply.Reply.{Reply}
use Rattle.archive_model.specs.declared.reply.Reply.TheVariants as replies
use Rattle.archive_model.specs.Checks.{Tests, checks}
use Rattle.control_core.specs.declared.asked.Told.{Told}
use Rattle.control_core.specs.declared.asked.Told.TheVariants as told
use Rattle.control_core.specs.declared.callers.OpenReplay.{OpenReplay}
use Rattle.control_core.specs.declared.event.Event.{Event}
use Rattle.control_core.specs.declared.event.Event.TheVariants.{Settle, SettleAll}
use Rattle.control_core.specs.Desk.{DeskState}
use Rattle.control_core.specs.Exact.{asked_of, plain, plain_poll, poll_event}
use Rattle.control_core.specs.Machine.{Breaks, Either, Ended, Ends, GivesFrames, Outcome, Passing, Polls, Run, Settles, SettlesAll, Step, Unread, recording_of}
use Rattle.control_core.specs.Turns.{open_replay_in, poll_tests, session_in, settle_all_tests, settle_tests}
use Rattle.control_core.specs.Changes.{positions_each, settled, settled_each, settled_position}
use Rattle.engine_core.specs.Engine.{EngineState}
use Rattle.call_history.specs.Values.{PassView}
use Rattle.archive_lock.specs.declared.history.Made.{Made}
use Rattle.archive_lock.specs.History.{EndsWithAnswer, IsNoted, Member, desk_calls, told_at}

-- a fact of the answer of checks and then something, which each refusal has
module _ (P : Outcome → Type 0) (refused : (r : Refusal) → P (Err r)) (d : DeskState) (tests : Tests) (ends : Ends) (o : Outcome) (n : DeskState) (passed : ends o n → P o) where
  of_passing : (rs : List Refusal) → Passing d tests rs ends o n → P o
  of_passing [] h = passed h
  of_passing (r ∷ rs) h = by (tests r) h (of_passing rs)
    where
      by : (b : Bool) → MatchBool b (Passing d tests rs ends o n) ((o ≡ Err r) × (n ≡ d)) → (Passing d tests rs ends o n → P o) → P o
      by true h rest = rest h
      by false h rest = subst P (sym h.0) (refused r)

-- ---- settlings

abbrev IsSettledTold : Told → Type 0
IsSettledTold t = (position : ℤ) × (t ≡ told.Reply (replies.Settled position))

ended_or_failed : (Is : Told → Type 0) (d n : DeskState) (settled : Outcome) (after : DeskState) (o : Outcome) → IfOk settled Is → Either (Ended settled after) (Breaks d) o n → IfOk o Is
ended_or_failed Is d n settled after o is (inl x) = subst (λ (y : Outcome). IfOk y Is) (sym x.0) is
ended_or_failed Is d n settled after o is (inr (inl x)) = subst (λ (y : Outcome). IfOk y Is) (sym x.0) tt
ended_or_failed Is d n settled after o is (inr (inr x)) = subst (λ (y : Outcome). IfOk y Is) (sym x.0) tt

told_settled : (d n : DeskState) (session : ℤ) (o : Outcome) → Settles d session o n → IfOk o IsSettledTold
told_settled d n session o h =
    let found = session_in d session in
    let answer : Outcome = Ok (told.Reply (replies.Settled (settled_position d found))) in
    of_passing (λ o. IfOk o IsSettledTold) (λ r. tt) d (settle_tests d session) (Either (Ended answer (settled found d)) (Breaks d)) o n (ended_or_failed IsSettledTold d n answer (settled found d) o (settled_position d found, refl)) checks h

abbrev reply_told : Told → Reply
reply_told (told.Reply reply) = reply
reply_told t = replies.Closed

settled_reply : (outcome : Result Reply Refusal) → IfOk (plain outcome) IsSettledTold → IfOk outcome (λ reply. (position : ℤ) × (reply ≡ replies.Settled position))
settled_reply (Ok reply) h = (h.0, ap reply_told h.1)
settled_reply (Err refusal) h = tt

-- ---- settlings of several sessions

abbrev IsGroupTold : Told → Type 0
IsGroupTold t = (positions : List (Option ℤ)) × (t ≡ told.Reply (replies.SettledAll positions))

told_group : (d n : DeskState) (sessions : List ℤ) (o : Outcome) → SettlesAll d sessions o n → IfOk o IsGroupTold
told_group d n sessions o h =
    let positions = positions_each sessions d in
    let answer : Outcome = Ok (told.Reply (replies.SettledAll positions)) in
    let after = settled_each sessions d in
    of_passing (λ o. IfOk o IsGroupTold) (λ r. tt) d (settle_all_tests d sessions) (Either (Ended answer after) (Breaks d)) o n (ended_or_failed IsGroupTold d n answer after o (positions, refl)) checks h

group_reply : (outcome : Result Reply Refusal) → IfOk (plain outcome) IsGroupTold → IfOk outcome (λ reply. (positions : List (Option ℤ)) × (reply ≡ replies.SettledAll positions))
group_reply (Ok reply) h = (h.0, ap reply_told h.1)
group_reply (Err refusal) h = tt

-- ---- polls

abbrev IsPolledTold : Told → Type 0
IsPolledTold (told.Polled frames is_done) = ⊤
IsPolledTold t = ⊥

unread_told : (d n : DeskState) (o : Outcome) → Unread d o n → IfOk o IsPolledTold
unread_told d n o (inl x) = subst (λ (y : Outcome). IfOk y IsPolledTold) (sym x.0) tt
unread_told d n o (inr x) = subst (λ (y : Outcome). IfOk y IsPolledTold) (sym x.2.0) tt

frames_told : (d n : DeskState) (limit : Option ℤ) (found : Option OpenReplay) (r : Option Registration) (o : Outcome) → GivesFrames d limit found r o n → IfOk o IsPolledTold
frames_told d n limit None r o h = absurd h
frames_told d n limit (Some replay) None o h = absurd h
frames_told d n limit (Some replay) (Some r) o h = subst (λ (y : Outcome). IfOk y IsPolledTold) (sym h.2.0) tt

polled_or_unread : (d n : DeskState) (limit : Option ℤ) (found : Option OpenReplay) (o : Outcome) → Either (Unread d) (GivesFrames d limit found (recording_of d found)) o n → IfOk o IsPolledTold
polled_or_unread d n limit found o (inl x) = unread_told d n o x
polled_or_unread d n limit found o (inr x) = frames_told d n limit found (recording_of d found) o x

told_polled : (d n : DeskState) (number most : ℤ) (limit : Option ℤ) (o : Outcome) → Polls d number most limit o n → IfOk o IsPolledTold
told_polled d n number most limit o h =
    let found = open_replay_in d number in
    of_passing (λ o. IfOk o IsPolledTold) (λ r. tt) d (poll_tests d number most limit) (Either (Unread d) (GivesFrames d limit found (recording_of d found))) o n
    (polled_or_unread d n limit found o) checks h

-- a poll's step is one of the machine's polls
poll_step : (d n : DeskState) (from number most : ℤ) (limit : Option ℤ) (outcome : Result Reply Refusal) → Step d (asked_of (poll_event number most limit)) (told_at from (poll_event number most limit) outcome) n → Polls d number most limit (plain_poll from outcome) n
poll_step d n from number most None outcome h = h
poll_step d n from number most (Some limit) outcome h = h

abbrev pub IsPolledReply : Reply → Type 0
IsPolledReply reply = (frames : List PolledFrame) × (next : Option ℤ) × (reply ≡ replies.Polled frames next)

polled_reply : (from : ℤ) (outcome : Result Reply Refusal) → IfOk (plain_poll from outcome) IsPolledTold → IfOk outcome IsPolledReply
polled_reply from (Ok (replies.Polled frames next)) h = (frames, next, refl)
polled_reply from (Ok reply) h = absurd h
polled_reply from (Err refusal) h = tt

-- ---- the last call of a legal history

last_step : (d e : DeskState) (xs : List Member) (x : Member) → Run d (desk_calls (xs ++ x ∷ [])) e → (m : DeskState) × (n : DeskState) × Step m (asked_of x.1.asked) (told_at x.1.from x.1.asked x.1.outcome) n
last_step d e [] x run = (d, run.0, run.1)
last_step d e (y ∷ ys) x run = last_step run.0 e ys x run.2

call_step : {D : Type 0} (life : D → Life) (opening : EngineState) (p q : PassView Made) (event : Event) (outcome : Result Reply Refusal) (ends : EndsWithAnswer life opening p event outcome q)
    → (m : DeskState) × (n : DeskState) × Step m (asked_of event) (told_at ends.call.from event outcome) n
call_step life opening p q event outcome ends =
    let gains = ends.extends.gains in
    let run = ends.extends.legal.run in
    let run' = subst (λ (seen : List Member). Run opening.desk (desk_calls seen) run.0) gains.seen run.1 in
    let last = last_step opening.desk run.0 (p.seen ++ gains.between) (p.number, ends.call) run' in (
      last.0,
      last.1,
      subst (λ (z : Event × Result Reply Refusal). Step last.0 (asked_of z.0) (told_at ends.call.from z.0 z.1) last.1) (λ i. (ends.asked i, ends.answered i)) last.2,
    )

-- a settling is answered by a position, or refused
pub settling_told : {D : Type 0} (life : D → Life) (opening : EngineState) (p q : PassView Made) (session : ℤ) (outcome : Result Reply Refusal) → (IsNoted outcome → EndsWithAnswer life opening p (Settle session) outcome q)
    → IfOk outcome (λ reply. (position : ℤ) × (reply ≡ replies.Settled position))
settling_told life opening p q session (Err refusal) ends = tt
settling_told life opening p q session (Ok reply) ends =
    let step = call_step life opening p q (Settle session) (Ok reply) (ends tt) in
    settled_reply (Ok reply) (told_settled step.0 step.1 session (plain (Ok reply)) step.2)

-- a poll is answered by frames, or refused, with a limit or without
pub poll_told : {D : Type 0} (life : D → Life) (opening : EngineState) (p q : PassView Made) (number most : ℤ) (limit : Option ℤ) (outcome : Result Reply Refusal) → (IsNoted outcome → EndsWithAnswer life opening p (poll_event number most limit) outcome q)
    → IfOk outcome IsPolledReply
poll_told life opening p q number most limit (Err refusal) ends = tt
poll_told life opening p q number most limit (Ok reply) ends =
    let step = call_step life opening p q (poll_event number most limit) (Ok reply) (ends tt) in
    let from = (ends tt).call.from in
    polled_reply from (Ok reply) (told_polled step.0 step.1 number most limit (plain_poll from (Ok reply)) (poll_step step.0 step.1 from number most limit (Ok reply) step.2))

-- a settling of several sessions is answered by positions, or refused
pub group_told : {D : Type 0} (life : D → Life) (opening : EngineState) (p q : PassView Made) (sessions : List ℤ) (outcome : Result Reply Refusal) → (IsNoted outcome → EndsWithAnswer life opening p (SettleAll sessions) outcome q)
    → IfOk outcome (λ reply. (positions : List (Option ℤ)) × (reply ≡ replies.SettledAll positions))
group_told life opening p q sessions (Err refusal) ends = tt
group_told life opening p q sessions (Ok reply) ends =
    let step = call_step life opening p q (SettleAll sessions) (Ok reply) (ends tt) in
    group_reply (Ok reply) (told_group step.0 step.1 sessions (plain (Ok reply)) step.2)
