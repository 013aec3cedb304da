-- What stands in place of an exact answer is one that the desk machine allows too.
use Rattle.std.proofs.Common.{◌≡◌, ◌⊎◌, inl, inr, ◌++◌, ℤ, Bool, true, false, true≢false, ◌&&◌, cond, IsTrue, List, [], ◌∷◌, Option, Some, None, Result, Ok, Err, refl, sym, ap, subst}
use Rattle.std.specs.Prelude.{MatchBool, is_some}
use Rattle.frame_core.specs.declared.refusal.Refusal.{Refusal}
use Rattle.frame_core.specs.declared.refusal.Refusal.TheVariants.{BadBlock, DeviceFault, NoMemory}
use Rattle.frame_core.specs.ReplayEnd.{bound_of}
use Rattle.archive_model.specs.declared.registration.Registration.{Registration}
use Rattle.archive_model.specs.declared.reply.Reply.{Reply}
use Rattle.archive_model.specs.declared.reply.Reply.TheVariants as replies
use Rattle.archive_model.specs.Checks.{Tests, block_checks, checked, checks, first_checks, last_checks, passes}
use Rattle.archive_model.specs.Register.{is_end, registration_in}
use Rattle.archive_model.specs.State.{State}
use Rattle.control_core.specs.declared.asked.Asked.{Asked}
use Rattle.control_core.specs.declared.asked.Told.{Told}
use Rattle.control_core.specs.declared.asked.Told.TheVariants as told
use Rattle.control_core.specs.Decided.{Decision}
use Rattle.control_core.specs.Decided.{Refused, Answered, Accepted, IfBoundary}
use Rattle.control_core.specs.declared.event.Event.{Event}
use Rattle.control_core.specs.declared.event.Event.TheVariants as events
use Rattle.control_core.specs.declared.turns.Opening.{Opening}
use Rattle.control_core.specs.Opened.{OpeningDecision}
use Rattle.control_core.specs.Opened as opening
use Rattle.control_core.specs.Desk.{DeskState}
use Rattle.control_core.specs.Changes.{after_open, after_write, broken_desk, checkpointed, positions_each, settled, settled_each, settled_position}
use Rattle.control_core.specs.Decisions.{command_in, decision_of}
use Rattle.control_core.specs.Turns.{begins_at, open_tests, opened_at, opening_decided, opening_of, poll_tests, open_replay_in, session_in, settle_all_tests, settle_tests, sweep_tests, verify_tests, write_tests, wrote_any}
use Rattle.control_core.specs.Machine.{AtPosition, Breaks, Decided, Either, Ended, Ends, Faults, GivesFrames, Outcome, Passing, Polls, RefusedByBanks, RefusesCall, Step, Stepped, UnlessBoundary, Unread, recording_of}
use Rattle.control_core.specs.Exact.{Archive, CallEnds, LeftByFault, MakesState, asked_of, opens_by_frames, reads_files, span_of, told_of, waits_for_frames, writes_files, is_poll}
use Rattle.control_core.specs.Consistent.{AreAtBoundaries, IsConsistent}
use Rattle.archive_model.proofs.WellLemmas.{both}
use Rattle.control_core.proofs.ExactLemmas.{exact_is_allowed}

-- ---- where each check holds

passed : (d : DeskState) (tests : Tests) (rs : List Refusal) (ends : Ends) (o : Outcome) (new : DeskState) → passes tests rs ≡ true → ends o new → Passing d tests rs ends o new
passed d tests [] ends o new all end = end
passed d tests (r ∷ rs) ends o new all end = by (tests r) all (λ rest. passed d tests rs ends o new rest end)
  where
    by : (b : Bool) → (b && passes tests rs) ≡ true → (passes tests rs ≡ true → Passing d tests rs ends o new) → MatchBool b (Passing d tests rs ends o new) (RefusesCall d r o new)
    by true all rest = rest all
    by false all rest = absurd (true≢false (sym all))

-- the same where one was answered
passed_on : (d : DeskState) (tests : Tests) (rs : List Refusal) (ends others : Ends) (t : Told) (x : DeskState) (o : Outcome) (new : DeskState) → Passing d tests rs ends (Ok t) x → (ends (Ok t) x → others o new) → Passing d tests rs others o new
passed_on d tests [] ends others t x o new was then = then was
passed_on d tests (r ∷ rs) ends others t x o new was then = by (tests r) was (λ rest. passed_on d tests rs ends others t x o new rest then)
  where
    by : (b : Bool) → MatchBool b (Passing d tests rs ends (Ok t) x) (RefusesCall d r (Ok t) x) → (Passing d tests rs ends (Ok t) x → Passing d tests rs others o new) → MatchBool b (Passing d tests rs others o new) (RefusesCall d r o new)
    by true was rest = rest was
    by false was rest = let wrong : Ok t ≡ Err r = was.0 in absurd cc

-- ---- a fault in reading

decided_unread : (d : DeskState) (decision : Decision) (new : DeskState) → waits_for_frames decision ≡ true → new ≡ d → Decided d decision (Err DeviceFault) new
decided_unread d (IfBoundary id position decided) new waits same = inr (inl (inl (refl, same)))
decided_unread d (Refused refusal) new waits same = absurd (true≢false (sym waits))
decided_unread d (Answered reply) new waits same = absurd (true≢false (sym waits))
decided_unread d (Accepted command) new waits same = absurd (true≢false (sym waits))

-- where a position is asked of frames
position_unread : (d : DeskState) (found : Option Registration) (position : ℤ) (behind : Result Opening Refusal) (ends : Ends) (new : DeskState) → opens_by_frames (opened_at found behind position) ≡ true → new ≡ d → AtPosition d found position ends (Err DeviceFault) new
position_unread d None position behind ends new by_frames same = inr (inl (inl (refl, same)))
position_unread d (Some r) position behind ends new by_frames same = by (is_end position r) by_frames
  where
    by : (b : Bool) → opens_by_frames (cond b (opening.Decided behind) (opening.IfBoundary position behind)) ≡ true → MatchBool b (ends (Err DeviceFault) new) (UnlessBoundary d ends (Err DeviceFault) new)
    by true frames = absurd (true≢false (sym frames))
    by false frames = inr (inl (inl (refl, same)))

opening_unread : (d : DeskState) (tests : Tests) (rs : List Refusal) (decision : OpeningDecision) (ends : Ends) (o : Outcome) (new : DeskState) → opens_by_frames (opening_decided (checked tests rs (Ok decision))) ≡ true → (opens_by_frames decision ≡ true → ends o new) → Passing d tests rs ends o new
opening_unread d tests [] decision ends o new by_frames end = end by_frames
opening_unread d tests (r ∷ rs) decision ends o new by_frames end = by (tests r) by_frames (λ rest. opening_unread d tests rs decision ends o new rest end)
  where
    by : (b : Bool) → opens_by_frames (opening_decided (cond b (checked tests rs (Ok decision)) (Err r))) ≡ true → (opens_by_frames (opening_decided (checked tests rs (Ok decision))) ≡ true → Passing d tests rs ends o new) → MatchBool b (Passing d tests rs ends o new) (RefusesCall d r o new)
    by true frames rest = rest frames
    by false frames rest = absurd (true≢false (sym frames))

poll_unread : (d : DeskState) (number most : ℤ) (limit : Option ℤ) (new : DeskState) → passes (poll_tests d number most limit) checks ≡ true → new ≡ d → Polls d number most limit (Err DeviceFault) new
poll_unread d number most limit new reads same =
    let found = open_replay_in d number in
    let ends : Ends = Either (Unread d) (GivesFrames d limit found (recording_of d found)) in
    passed d (poll_tests d number most limit) checks ends (Err DeviceFault) new reads (inl (inl (refl, same)))

-- ---- a fault in writing

decided_breaks : (d : DeskState) (decision : Decision) (new : DeskState) → is_some (command_in decision) ≡ true → new ≡ broken_desk d → Decided d decision (Err DeviceFault) new
decided_breaks d (Accepted command) new writes same = inr (inr (refl, same))
decided_breaks d (IfBoundary id position (Ok command)) new writes same = inr (inr (inr (inr (refl, same))))
decided_breaks d (IfBoundary id position (Err refusal)) new writes same = absurd (true≢false (sym writes))
decided_breaks d (Refused refusal) new writes same = absurd (true≢false (sym writes))
decided_breaks d (Answered reply) new writes same = absurd (true≢false (sym writes))

-- ---- a call

not_answered : (t : Told) (r : Refusal) → Ok t ≡ Err r → ⊥
not_answered t r is = cc

left_read : (a : Archive) (event : Event) (new : DeskState) → IsTrue (reads_files a.desk event) → new ≡ a.desk → Step a.desk (asked_of event) (Err DeviceFault) new
left_read a (events.Ask request) new reads same = decided_unread a.desk (decision_of a.desk request) new reads same
left_read a (events.Write session block) new reads same = absurd (true≢false (sym reads))
left_read a (events.Settle session) new reads same = absurd (true≢false (sym reads))
left_read a (events.SettleAll sessions) new reads same = absurd (true≢false (sym reads))
left_read a events.Checkpoint new reads same = absurd (true≢false (sym reads))
left_read a (events.ReplayOpen id position size) new reads same =
    let d = a.desk in
    let found = registration_in d.register id in
    let next = begins_at position found in
    let tests = open_tests d id position size true in
    let behind = checked tests (block_checks ++ last_checks) (Ok (opening_of d id position size)) in
    let opened : Ends = Passing d tests (block_checks ++ last_checks) (Ended (Ok (told.Reply (replies.ReplayOpened d.callers.next_replay))) (after_open id next (bound_of next size) d)) in
    opening_unread d tests first_checks (opened_at found behind next) (AtPosition d found next opened) (Err DeviceFault) new reads (λ by_frames. position_unread d found next behind opened new by_frames same)
left_read a (events.ReplayPoll number most) new reads same = poll_unread a.desk number most None new reads same
left_read a (events.ReplayPollTo number most limit) new reads same = poll_unread a.desk number most (Some limit) new reads same
left_read a (events.ReplayClose number) new reads same = absurd (true≢false (sym reads))
left_read a events.Sweep new reads same =
    let ends : Ends = λ o x. ((removed : Bool) × Ended (Ok (told.Reply (replies.Swept removed))) a.desk o x) ⊎ Faults a.desk o x in
    passed a.desk (sweep_tests a.desk) checks ends (Err DeviceFault) new reads (inr (refl, same))
left_read a (events.Verify id) new reads same =
    let ends : Ends = λ o x. ((frames : ℤ) × Ended (Ok (told.Reply (replies.Verified frames))) a.desk o x) ⊎ Unread a.desk o x in
    passed a.desk (verify_tests a.desk id) checks ends (Err DeviceFault) new reads (inr (inl (refl, same)))

left_written : (a : Archive) (event : Event) (u : State) (new : DeskState) → IsTrue (writes_files a.desk event) → MakesState a event u → new ≡ broken_desk a.desk → Step a.desk (asked_of event) (Err DeviceFault) new
left_written a (events.Ask request) u new writes makes same = decided_breaks a.desk (decision_of a.desk request) new writes same
left_written a (events.Write session block) u new writes (reply, (b, ends, state)) same =
    let tests = write_tests a.desk session (span_of block) true in
    let done : Ends = Either (Ended (Ok (told.Reply (replies.Written (span_of block).last))) (after_write session (span_of block) a.desk)) (Breaks a.desk) in
    let behind : Ends = Either (RefusesCall a.desk BadBlock) (Passing a.desk tests last_checks done) in
    passed_on a.desk tests (first_checks ++ block_checks) behind behind (told.Reply reply) b.desk (Err DeviceFault) new (exact_is_allowed a (events.Write session block) (Ok reply) b (λ poll. absurd (true≢false (sym poll))) ends)
    (λ was. elim was [
      | inl bad ↦ absurd (not_answered (told.Reply reply) BadBlock bad.0)
      | inr rest ↦ inr (passed_on a.desk tests last_checks done done (told.Reply reply) b.desk (Err DeviceFault) new rest (λ was. inr (inr (refl, same))))
    ])
left_written a (events.Settle session) u new writes (reply, (b, ends, state)) same =
    let found = session_in a.desk session in
    let done : Ends = Either (Ended (Ok (told.Reply (replies.Settled (settled_position a.desk found)))) (settled found a.desk)) (Breaks a.desk) in
    passed_on a.desk (settle_tests a.desk session) checks done done (told.Reply reply) b.desk (Err DeviceFault) new (exact_is_allowed a (events.Settle session) (Ok reply) b (λ poll. absurd (true≢false (sym poll))) ends) (λ was. inr (inr (refl, same)))
left_written a (events.SettleAll sessions) u new writes makes same =
    let done : Ends = Either (Ended (Ok (told.Reply (replies.SettledAll (positions_each sessions a.desk)))) (settled_each sessions a.desk)) (Breaks a.desk) in
    let passes_all : (passes (settle_all_tests a.desk sessions) checks ≡ true) × (wrote_any a.desk sessions ≡ true) = both writes in
    passed a.desk (settle_all_tests a.desk sessions) checks done (Err DeviceFault) new passes_all.0 (inr (inr (refl, same)))
left_written a events.Checkpoint u new writes makes same =
    let done : Ends = Either (Ended (Ok (told.Reply replies.Checkpointed)) (checkpointed a.desk)) (Either (RefusedByBanks a.desk) (Breaks a.desk)) in
    passed a.desk (sweep_tests a.desk) checks done (Err DeviceFault) new writes (inr (inr (inr (refl, same))))
left_written a (events.ReplayOpen id position size) u new writes makes same = absurd (true≢false (sym writes))
left_written a (events.ReplayPoll number most) u new writes makes same = absurd (true≢false (sym writes))
left_written a (events.ReplayPollTo number most limit) u new writes makes same = absurd (true≢false (sym writes))
left_written a (events.ReplayClose number) u new writes makes same = absurd (true≢false (sym writes))
left_written a events.Sweep u new writes makes same = absurd (true≢false (sym writes))
left_written a (events.Verify id) u new writes makes same = absurd (true≢false (sym writes))

left_allowed : (a : Archive) (event : Event) (b : Archive) → LeftByFault a event b → Step a.desk (asked_of event) (Err DeviceFault) b.desk
left_allowed a event b left = elim left [
  | inl read ↦ left_read a event b.desk read.0 (ap (λ (x : Archive). x.desk) read.1)
  | inr (writes, (u, makes, same)) ↦ left_written a event u b.desk writes makes (ap (λ (x : Archive). x.desk) same)
]

stepped_of : (d : DeskState) (asked : Asked) (o : Outcome) (new : DeskState) → Step d asked o new → Stepped d asked o new
stepped_of d asked (Ok t) new step = step
stepped_of d asked (Err refusal) new step = inl step

-- a refusal is told as it is
told_as_is : (d : DeskState) (event : Event) (refusal : Refusal) → told_of d event (Err refusal) ≡ Err refusal
told_as_is d (events.Ask request) refusal = refl
told_as_is d (events.Write session block) refusal = refl
told_as_is d (events.Settle session) refusal = refl
told_as_is d (events.SettleAll sessions) refusal = refl
told_as_is d events.Checkpoint refusal = refl
told_as_is d (events.ReplayOpen id position size) refusal = refl
told_as_is d (events.ReplayPoll number most) refusal = refl
told_as_is d (events.ReplayPollTo number most limit) refusal = refl
told_as_is d (events.ReplayClose number) refusal = refl
told_as_is d events.Sweep refusal = refl
told_as_is d (events.Verify id) refusal = refl

refused_so : (a : Archive) (event : Event) (refusal : Refusal) (new : DeskState) → Stepped a.desk (asked_of event) (Err refusal) new → Stepped a.desk (asked_of event) (told_of a.desk event (Err refusal)) new
refused_so a event refusal new step = subst (λ (o : Outcome). Stepped a.desk (asked_of event) o new) (sym (told_as_is a.desk event refusal)) step

pub call_is_allowed : (a : Archive) (event : Event) (o : Result Reply Refusal) (b : Archive) → (IsTrue (is_poll event) → IsConsistent a × AreAtBoundaries a) → CallEnds a event (Unit {0}) o b → Stepped a.desk (asked_of event) (told_of a.desk event o) b.desk
call_is_allowed a event (Ok reply) b consistent ends = stepped_of a.desk (asked_of event) (told_of a.desk event (Ok reply)) b.desk (exact_is_allowed a event (Ok reply) b consistent ends)
call_is_allowed a event (Err NoMemory) b consistent ends = elim ends [
  | inl exact ↦ stepped_of a.desk (asked_of event) (told_of a.desk event (Err NoMemory)) b.desk (exact_is_allowed a event (Err NoMemory) b consistent exact)
  | inr same ↦ refused_so a event NoMemory b.desk (inr (ap (λ (x : Archive). x.desk) same))
]
call_is_allowed a event (Err DeviceFault) b consistent ends = elim ends [
  | inl exact ↦ stepped_of a.desk (asked_of event) (told_of a.desk event (Err DeviceFault)) b.desk (exact_is_allowed a event (Err DeviceFault) b consistent exact)
  | inr out ↦ refused_so a event DeviceFault b.desk (inl (left_allowed a event b out.1))
]
call_is_allowed a event (Err refusal) b consistent ends = elim ends [
  | inl exact ↦ stepped_of a.desk (asked_of event) (told_of a.desk event (Err refusal)) b.desk (exact_is_allowed a event (Err refusal) b consistent exact)
  | inr out ↦ absurd out
]

-- the same for another cause of a fault
pub other_cause : (a : Archive) (event : Event) (F G : Type 0) (o : Result Reply Refusal) (b : Archive) → (F → G) → CallEnds a event F o b → CallEnds a event G o b
other_cause a event F G (Ok reply) b cause ends = ends
other_cause a event F G (Err NoMemory) b cause ends = ends
other_cause a event F G (Err DeviceFault) b cause ends = elim ends [ inl exact ↦ inl exact | inr out ↦ inr (cause out.0, out.1) ]
other_cause a event F G (Err refusal) b cause ends = ends
