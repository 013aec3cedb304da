-- What the desk machine may answer to an opening and to a question for positions, and so the last call of a legal history.
use Rattle.std.proofs.Common.{◌≡◌, inl, inr, ◌++◌, ℤ, Bool, true, false, List, [], ◌∷◌, Option, Some, None, Result, Ok, Err, sym, refl, ap, subst}
use Rattle.std.specs.Prelude.{IfOk, MatchBool, if◌then◌else◌}
use Rattle.frame_core.specs.declared.refusal.Refusal.{Refusal}
use Rattle.frame_core.specs.ReplayEnd.{bound_of}
use Rattle.disk_core.specs.Life.{Life}
use Rattle.archive_model.specs.declared.registration.Registration.{Registration}
use Rattle.archive_model.specs.declared.reply.Reply.{Reply}
use Rattle.archive_model.specs.declared.reply.Reply.TheVariants as replies
use Rattle.archive_model.specs.Checks.{Tests, block_checks, checked, checks, first_checks, last_checks}
use Rattle.archive_model.specs.Register.{is_end, registration_in}
use Rattle.control_core.specs.declared.asked.Told.{Told}
use Rattle.control_core.specs.declared.asked.Told.TheVariants as told
use Rattle.control_core.specs.declared.event.Event.{Event}
use Rattle.control_core.specs.declared.event.Event.TheVariants.{Ask, ReplayOpen}
use Rattle.control_core.specs.declared.request.Request.TheVariants.{Positions}
use Rattle.control_core.specs.Changes.{after_open}
use Rattle.control_core.specs.Decisions.{answered, decision_of, positions_reply, positions_tests}
use Rattle.control_core.specs.Desk.{DeskState}
use Rattle.control_core.specs.Exact.{asked_of, plain}
use Rattle.control_core.specs.Machine.{AtPosition, Decided, Either, Ended, Ends, Opens, Outcome, Passing, Run, Step, UnlessBoundary, Unread}
use Rattle.control_core.specs.Turns.{begins_at, open_tests}
use Rattle.engine_core.specs.Engine.{EngineState}
use Rattle.call_history.specs.Values.{PassView}
use Rattle.archive_lock.specs.declared.history.Made.{Made}
use Rattle.archive_lock.specs.History.{EndsWithAnswer, IsNoted, Member, desk_calls, told_at}

-- ---- what each refusal has

module _ (P : Outcome → Type 0) (refused : (r : Refusal) → P (Err r)) (d : DeskState) (tests : Tests) (ends : Ends) (o : Outcome) (n : DeskState) (passed : ends o n → P o) where
  of_passing : (rs : List Refusal) → Passing d tests rs ends o n → P o
  of_passing [] h = passed h
  of_passing (r ∷ rs) h = by (tests r) h (of_passing rs)
    where
      by : (b : Bool) → MatchBool b (Passing d tests rs ends o n) ((o ≡ Err r) × (n ≡ d)) → (Passing d tests rs ends o n → P o) → P o
      by true h rest = rest h
      by false h rest = subst P (sym h.0) (refused r)

-- ---- openings

abbrev IsOpenedTold : Told → Type 0
IsOpenedTold t = (number : ℤ) × (t ≡ told.Reply (replies.ReplayOpened number))

abbrev IsOpened : Outcome → Type 0
IsOpened o = IfOk o IsOpenedTold

unread_opened : (d n : DeskState) (o : Outcome) → Unread d o n → IsOpened o
unread_opened d n o (inl x) = subst IsOpened (sym x.0) tt
unread_opened d n o (inr x) = subst IsOpened (sym x.2.0) tt

boundary_opened : (d n : DeskState) (ends : Ends) (o : Outcome) → (ends o n → IsOpened o) → UnlessBoundary d ends o n → IsOpened o
boundary_opened d n ends o rest (inl x) = subst IsOpened (sym x.0) tt
boundary_opened d n ends o rest (inr (inl x)) = unread_opened d n o x
boundary_opened d n ends o rest (inr (inr x)) = rest x

at_opened : (d n : DeskState) (found : Option Registration) (position : ℤ) (ends : Ends) (o : Outcome) → (ends o n → IsOpened o) → AtPosition d found position ends o n → IsOpened o
at_opened d n None position ends o rest h = boundary_opened d n ends o rest h
at_opened d n (Some r) position ends o rest h = by (is_end position r) h
  where
    by : (b : Bool) → MatchBool b (ends o n) (UnlessBoundary d ends o n) → IsOpened o
    by true h = rest h
    by false h = boundary_opened d n ends o rest h

told_opened : (d n : DeskState) (id position size : ℤ) (o : Outcome) → Opens d id position size o n → IsOpened o
told_opened d n id position size o h =
    let found = registration_in d.register id in
    let next = begins_at position found in
    let tests = open_tests d id position size true in
    let last : Ends = Ended (Ok (told.Reply (replies.ReplayOpened d.callers.next_replay))) (after_open id next (bound_of next size) d) in
    let behind : Ends = Passing d tests (block_checks ++ last_checks) last in
    of_passing IsOpened (λ r. tt) d tests (AtPosition d found next behind) o n
    (at_opened d n found next behind o (of_passing IsOpened (λ r. tt) d tests last o n (λ x. subst IsOpened (sym x.0) (d.callers.next_replay, refl)) (block_checks ++ last_checks))) first_checks h

-- ---- positions

abbrev IsPositionsTold : Told → Type 0
IsPositionsTold t = (start recorded stop : ℤ) × (t ≡ told.Reply (replies.Positions start recorded stop))

abbrev ArePositions : Outcome → Type 0
ArePositions o = IfOk o IsPositionsTold

replied : (r : Option Registration) → IsPositionsTold (told.Reply (positions_reply r))
replied None = (_, _, _, refl)
replied (Some r) = (_, _, _, refl)

checked_ok : (P : Reply → Type 0) (tests : Tests) (reply : Reply) → P reply → (rs : List Refusal) → IfOk (checked tests rs (Ok reply)) P
checked_ok P tests reply is [] = is
checked_ok P tests reply is (r ∷ rs) = by (tests r) (checked_ok P tests reply is rs)
  where
    by : (b : Bool) → IfOk (checked tests rs (Ok reply)) P → IfOk (if b then checked tests rs (Ok reply) else Err r) P
    by true rest = rest
    by false rest = tt

told_positions : (d n : DeskState) (id : ℤ) (o : Outcome) → Decided d (decision_of d (Positions id)) o n → ArePositions o
told_positions d n id o h =
    let reply = positions_reply (registration_in d.register id) in
    by (checked (positions_tests d id) checks (Ok reply)) (checked_ok (λ reply. IsPositionsTold (told.Reply reply)) (positions_tests d id) reply (replied (registration_in d.register id)) checks) h
  where
    by : (r : Result Reply Refusal) → IfOk r (λ reply. IsPositionsTold (told.Reply reply)) → Decided d (answered r) o n → ArePositions o
    by (Ok reply) is h = subst ArePositions (sym h.0) is
    by (Err refusal) is h = subst ArePositions (sym h.0) tt

-- ---- the last call of a legal history

last_step : (d e : DeskState) (xs : List Member) (x : Member) → Run d (desk_calls (xs ++ x ∷ [])) e → (m : DeskState) × (n : DeskState) × Step m (asked_of x.1.asked) (told_at x.1.from x.1.asked x.1.outcome) n
last_step d e [] x run = (d, run.0, run.1)
last_step d e (y ∷ ys) x run = last_step run.0 e ys x run.2

call_step : {D : Type 0} (life : D → Life) (opening : EngineState) (p q : PassView Made) (event : Event) (outcome : Result Reply Refusal) (ends : EndsWithAnswer life opening p event outcome q)
    → (m : DeskState) × (n : DeskState) × Step m (asked_of event) (told_at ends.call.from event outcome) n
call_step life opening p q event outcome ends =
    let gains = ends.extends.gains in
    let run = ends.extends.legal.run in
    let run' = subst (λ (seen : List Member). Run opening.desk (desk_calls seen) run.0) gains.seen run.1 in
    let last = last_step opening.desk run.0 (p.seen ++ gains.between) (p.number, ends.call) run' in (
      last.0,
      last.1,
      subst (λ (z : Event × Result Reply Refusal). Step last.0 (asked_of z.0) (told_at ends.call.from z.0 z.1) last.1) (λ i. (ends.asked i, ends.answered i)) last.2,
    )

abbrev reply_told : Told → Reply
reply_told (told.Reply reply) = reply
reply_told t = replies.Closed

-- an opening is answered by a number, or refused
pub opening_told : {D : Type 0} (life : D → Life) (opening : EngineState) (p q : PassView Made) (id position size : ℤ) (reply : Reply) → (IsNoted (Ok reply) → EndsWithAnswer life opening p (ReplayOpen id position size) (Ok reply) q)
    → (number : ℤ) × (reply ≡ replies.ReplayOpened number)
opening_told life opening p q id position size reply ends =
    let step = call_step life opening p q (ReplayOpen id position size) (Ok reply) (ends tt) in
    let is = told_opened step.0 step.1 id position size (plain (Ok reply)) step.2 in (is.0, ap reply_told is.1)

-- a question for positions is answered by positions, or refused
pub positions_told : {D : Type 0} (life : D → Life) (opening : EngineState) (p q : PassView Made) (id : ℤ) (reply : Reply) → (IsNoted (Ok reply) → EndsWithAnswer life opening p (Ask (Positions id)) (Ok reply) q)
    → (start recorded stop : ℤ) × (reply ≡ replies.Positions start recorded stop)
positions_told life opening p q id reply ends =
    let step = call_step life opening p q (Ask (Positions id)) (Ok reply) (ends tt) in
    let is = told_positions step.0 step.1 id (plain (Ok reply)) step.2 in (is.0, is.1, is.2, ap reply_told is.3)
