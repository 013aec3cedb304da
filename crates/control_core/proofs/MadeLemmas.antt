-- A call that is answered makes the steps that it asks for.
use Rattle.std.proofs.Common.{◌≡◌, ◌<◌, ◌≤◌, inl, inr, not, ℤ, Bool, true, false, cond, List, [], ◌∷◌, ◌++◌, length, Option, Some, None, Result, Ok, Err, refl, sym, ap, subst, ◌∙◌, true≢false, arith}
use Rattle.std.proofs.lemmas.List.{length-append}
use Rattle.std.specs.Prelude.{IsFalse, IsTrue, is_some}
use Rattle.frame_core.specs.declared.block.Block.{Block}
use Rattle.frame_core.specs.declared.refusal.Refusal.{Refusal}
use Rattle.frame_core.specs.declared.refusal.Refusal.TheVariants.{BadPosition}
use Rattle.archive_model.specs.declared.command.Command.{Command}
use Rattle.archive_model.specs.declared.command.Command.TheVariants as commands
use Rattle.archive_model.specs.declared.registration.Registration.{Registration}
use Rattle.archive_model.specs.declared.reply.Reply.{Reply}
use Rattle.archive_model.specs.declared.reply.Reply.TheVariants as replies
use Rattle.archive_model.specs.Acceptance.{BookState, book_after}
use Rattle.archive_model.specs.Accepting.{begins_in}
use Rattle.archive_model.specs.Checks.{Tests, block_checks, checked, checks, first_checks, last_checks}
use Rattle.archive_model.specs.Commands.{after}
use Rattle.archive_model.specs.Register.{RegisterState, active_count, is_end, registration_in}
use Rattle.archive_model.specs.State.{Recording}
use Rattle.archive_model.proofs.WellLemmas.{both}
use Rattle.control_core.specs.declared.callers.OpenReplay.{OpenReplay}
use Rattle.control_core.specs.declared.callers.RecorderSession.{RecorderSession}
use Rattle.control_core.specs.declared.callers.Written.{Written}
use Rattle.control_core.specs.Decided.{Decision}
use Rattle.control_core.specs.Decided as decisions
use Rattle.control_core.specs.declared.event.Event.{Event}
use Rattle.control_core.specs.declared.event.Event.TheVariants as events
use Rattle.control_core.specs.declared.request.Request.{Request}
use Rattle.control_core.specs.declared.request.Request.TheVariants as requests
use Rattle.control_core.specs.declared.turns.Opening.{Opening}
use Rattle.control_core.specs.declared.turns.Settling.{Settling}
use Rattle.control_core.specs.declared.turns.Settling.TheVariants as settling
use Rattle.control_core.specs.Changes.{desk_after, positions_each, settled, settled_by}
use Rattle.control_core.specs.Desk.{DeskState}
use Rattle.control_core.specs.Decisions.{accepted, asked_command, command_in, decided, decision_of, extend_tests, if_boundary, purge_segments_tests, purge_tests, start_tests, stop_tests, truncate_tests}
use Rattle.control_core.specs.Turns.{close_decision, has_written, open_decision, poll_decision, session_in, settle_all_tests, settle_decision, settle_tests, sweep_tests, write_decision}
use Rattle.control_core.specs.Agreement.{WroteBlocks}
use Rattle.control_core.specs.Exact.{Archive, ArchiveEnds, CheckpointEnds, DecisionEnds, Leaves, OpeningEnds, PolledEnds, PollingEnds, SettlingEnds, SweepEnds, archive_after, asked_frames, asked_opening, book_of, recording_at, settled_archive, settled_archives, settled_by_number, settling_in}
use Rattle.control_core.specs.Consistent.{AsksFew, IsAcceptable, IsConsistent, MakesSteps, SettlesByAppend, append_of, appends_of, is_append, is_asked, request_steps, steps_asked}
use Rattle.control_core.specs.Steps.{AreAcceptedSteps, AreAllowedSteps, BookStep, Entered, books_after, desks_after}
use Rattle.control_core.proofs.AgreementLemmas.{asked_is}
use Rattle.control_core.proofs.AllowedLemmas.{works_of}
use Rattle.control_core.proofs.CallLemmas.{asked_works, no_append}
use Rattle.control_core.proofs.ConsistentLemmas.{behind_one, decided_blocks, may_of_all, one_settled}
use Rattle.control_core.proofs.DecidedLemmas.{decided_accepted, held, settling_accepted, settling_session}
use Rattle.control_core.proofs.GroupLemmas.{HasRoomBehind, room_here}

-- ---- calls that ask for no step, and for one

-- a call that asks for none and leaves what is recorded
none_made : (a x b : Archive) (event : Event) → steps_asked a event ≡ [] → b ≡ x → book_of x ≡ book_of a → MakesSteps a b event
none_made a x b event none is same = record {
  accepted = subst (AreAcceptedSteps (book_of a)) (sym none) tt;
  allowed = subst (AreAllowedSteps (book_of a) a.desk) (sym none) tt;
  book = ap book_of is ∙ same ∙ sym (ap (books_after (book_of a)) none);
  works = λ some. absurd (some none);
  desk = λ some. absurd (some none);
}

-- a call that makes the one command that it asks for
one_made : (a b : Archive) (event : Event) (c : Command) → steps_asked a event ≡ Entered c ∷ [] → IsFalse a.desk.is_broken → IsAcceptable a c → book_of b ≡ book_after (book_of a) c → b.desk ≡ desk_after a.desk c → MakesSteps a b event
one_made a b event c one works acceptable book desk = record {
  accepted = subst (AreAcceptedSteps (book_of a)) (sym one) (acceptable.accepted, tt);
  allowed = subst (AreAllowedSteps (book_of a) a.desk) (sym one) (acceptable.allowed, acceptable.written, tt);
  book = book ∙ sym (ap (books_after (book_of a)) one);
  works = λ some. works;
  desk = λ some. desk ∙ sym (ap (desks_after a.desk) one);
}

-- ---- requests

-- the history's count and limit after a command that is no append
counted_after : (a : Archive) (c : Command) → IsFalse (is_append c) → book_of (archive_after a c) ≡ book_after (book_of a) c
counted_after a (commands.Start f) none = refl
counted_after a (commands.Append id blocks) none = absurd (true≢false none)
counted_after a (commands.Stop id timestamp) none = refl
counted_after a (commands.Extend f) none = refl
counted_after a (commands.Truncate id position) none = refl
counted_after a (commands.PurgeSegments id position) none = refl
counted_after a (commands.PurgeRecording id) none = refl
counted_after a commands.Restart none = refl

-- what may be a command is not answered as a question
accepted_not : (a : Archive) (o : Result Command Refusal) (reply : Reply) → asked_frames a (accepted o) ≡ decisions.Answered reply → ⊥
accepted_not a (Ok c) reply is = cc
accepted_not a (Err refusal) reply is = cc

front_not : (a : Archive) (tests : Tests) (rs : List Refusal) (decision : Decision) (reply : Reply) → (asked_frames a decision ≡ decisions.Answered reply → ⊥) → asked_frames a (decided (checked tests rs (Ok decision))) ≡ decisions.Answered reply → ⊥
front_not a tests [] decision reply not_so is = not_so is
front_not a tests (r ∷ rs) decision reply not_so is = by (tests r) is (front_not a tests rs decision reply not_so)
  where
    by : (b : Bool) → asked_frames a (decided (cond b (checked tests rs (Ok decision)) (Err r))) ≡ decisions.Answered reply → (asked_frames a (decided (checked tests rs (Ok decision))) ≡ decisions.Answered reply → ⊥) → ⊥
    by true is rest = rest is
    by false is rest = cc

boundary_not : (a : Archive) (found : Option Registration) (id position : ℤ) (o : Result Command Refusal) (reply : Reply) → asked_frames a (if_boundary found id position o) ≡ decisions.Answered reply → ⊥
boundary_not a None id position o reply is = accepted_not a o reply is
boundary_not a (Some r) id position o reply is = by (is_end position r) is
  where
    inside : (b : Bool) (x : Result Command Refusal) → cond b (accepted x) (decisions.Refused BadPosition) ≡ decisions.Answered reply → ⊥
    inside true (Ok c) is = cc
    inside true (Err refusal) is = cc
    inside false x is = cc

    by : (b : Bool) → asked_frames a (cond b (accepted o) (decisions.IfBoundary id position o)) ≡ decisions.Answered reply → ⊥
    by true is = accepted_not a o reply is
    by false is = inside (begins_in (recording_at a id) position) o is

-- a request that is answered without a command asks for none
answered_asks_none : (a : Archive) (request : Request) (reply : Reply) → asked_frames a (decision_of a.desk request) ≡ decisions.Answered reply → asked_command request ≡ None
answered_asks_none a (requests.Start f) reply is = absurd (accepted_not a (checked (start_tests a.desk f) checks (Ok (commands.Start f))) reply is)
answered_asks_none a (requests.Stop id timestamp) reply is = absurd (accepted_not a (checked (stop_tests a.desk id timestamp) checks (Ok (commands.Stop id timestamp))) reply is)
answered_asks_none a (requests.Extend f) reply is = absurd (accepted_not a (checked (extend_tests a.desk f) checks (Ok (commands.Extend f))) reply is)
answered_asks_none a (requests.Truncate id position) reply is =
    let tests = truncate_tests a.desk id position in
    let found = registration_in a.desk.register id in
    let behind = checked tests (block_checks ++ last_checks) (Ok (commands.Truncate id position)) in
    absurd (front_not a tests first_checks (if_boundary found id position behind) reply (boundary_not a found id position behind reply) is)
answered_asks_none a (requests.PurgeSegments id position) reply is = absurd (accepted_not a (checked (purge_segments_tests a.desk id position) checks (Ok (commands.PurgeSegments id position))) reply is)
answered_asks_none a (requests.PurgeRecording id) reply is = absurd (accepted_not a (checked (purge_tests a.desk id) checks (Ok (commands.PurgeRecording id))) reply is)
answered_asks_none a (requests.List from count) reply is = refl
answered_asks_none a (requests.Find f) reply is = refl
answered_asks_none a (requests.Positions id) reply is = refl
answered_asks_none a (requests.Source id) reply is = refl

-- the command that the frames let through is one that the request asks for
framed_asked : (a : Archive) (request : Request) (decision : Decision) (c : Command) → decision_of a.desk request ≡ decision → asked_frames a decision ≡ decisions.Accepted c → asked_command request ≡ Some c
framed_asked a request (decisions.Refused r) c is framed = absurd cc
framed_asked a request (decisions.Answered answer) c is framed = absurd cc
framed_asked a request (decisions.Accepted made) c is framed = asked_is a.desk request c (ap command_in is ∙ ap command_in framed)
framed_asked a request (decisions.IfBoundary id position (Err r)) c is framed = by (begins_in (recording_at a id) position) framed
  where
    by : (t : Bool) → cond t (decisions.Refused r) (decisions.Refused BadPosition) ≡ decisions.Accepted c → asked_command request ≡ Some c
    by true clash = absurd cc
    by false clash = absurd cc
framed_asked a request (decisions.IfBoundary id position (Ok made)) c is framed = by (begins_in (recording_at a id) position) framed
  where
    by : (t : Bool) → cond t (decisions.Accepted made) (decisions.Refused BadPosition) ≡ decisions.Accepted c → asked_command request ≡ Some c
    by true same = asked_is a.desk request c (ap command_in is ∙ ap command_in same)
    by false clash = absurd cc

asked_made : (a : Archive) (request : Request) (decision : Decision) (reply : Reply) (b : Archive) → ((c : Command) → decision ≡ decisions.Accepted c → IsAcceptable a c × IsTrue (is_asked c))
    → ((c : Command) → decision ≡ decisions.Accepted c → asked_command request ≡ Some c) → ((answer : Reply) → decision ≡ decisions.Answered answer → asked_command request ≡ None) → DecisionEnds a decision (Ok reply) b → MakesSteps a b (events.Ask request)
asked_made a request (decisions.Refused r) reply b accepts asks answers h = absurd (let clash = h.0 in cc)
asked_made a request (decisions.Answered answer) reply b accepts asks answers h = none_made a a b (events.Ask request) (ap request_steps (answers answer refl)) h.1 refl
asked_made a request (decisions.Accepted c) reply b accepts asks answers h =
    let is = accepts c refl in
    one_made a b (events.Ask request) c (ap request_steps (asks c refl)) (asked_works a.desk c is.1 is.0.allowed) is.0 (ap book_of h.1 ∙ counted_after a c (no_append c is.1)) (ap (λ (x : Archive). x.desk) h.1)
asked_made a request (decisions.IfBoundary id position o) reply b accepts asks answers h = absurd h

-- ---- settling

-- what a settling of a session's blocks makes of the history's count
settled_counts : (a : Archive) (session id : ℤ) → SettlesByAppend a session id → book_of (settled_archive a session id) ≡ book_after (book_of a) (commands.Append id (a.blocks session))
settled_counts a session id settles =
    let blocks : List Block = a.blocks session in
    let wrote : WroteBlocks a.desk a.state id blocks = settles.acceptable.written in
    let by_session : desk_after a.desk (commands.Append id blocks) ≡ settled_by wrote.session (Some wrote.written) a.desk =
    ap (λ (o : Option RecorderSession). settled o a.desk) wrote.writer ∙ ap (λ (o : Option Written). settled_by wrote.session o a.desk) wrote.has in
    let desk : settled (session_in a.desk session) a.desk ≡ settled_by wrote.session (Some wrote.written) a.desk = sym settles.same ∙ by_session in
    let B : DeskState → BookState = λ d. record { state = after a.state (commands.Append id blocks); counted = d.counted; limit = d.limit } in
    ap B desk

settled_made : (a : Archive) (session : ℤ) (decision : Result Settling Refusal) (reply : Reply) (b : Archive) → IsConsistent a → settle_decision a.desk session ≡ decision → SettlingEnds a session decision (Ok reply) b → MakesSteps a b (events.Settle session)
settled_made a session (Err r) reply b consistent is h = absurd (let clash = h.0 in cc)
settled_made a session (Ok (settling.Nothing position)) reply b consistent is h =
    let found = held (settle_tests a.desk session) checks (settling_in a session) (settling.Nothing position) is in
    none_made a a b (events.Settle session) (ap (append_of a session) found.1) h.1 refl
settled_made a session (Ok (settling.Blocks id w)) reply b consistent is h =
    let found = held (settle_tests a.desk session) checks (settling_in a session) (settling.Blocks id w) is in
    let settles = settling_accepted a session id w consistent is in
    let c = commands.Append id (a.blocks session) in
    one_made a b (events.Settle session) c (ap (append_of a session) found.1) (works_of a.desk c refl settles.acceptable.allowed) settles.acceptable (ap book_of h.1 ∙ settled_counts a session id settles) (ap (λ (x : Archive). x.desk) h.1 ∙ sym settles.same)

-- ---- settling several sessions

-- the steps that lead from an archive to another
record Leads (a b : Archive) (steps : List BookStep) : Type 0 where
  accepted : AreAcceptedSteps (book_of a) steps
  allowed : AreAllowedSteps (book_of a) a.desk steps
  book : book_of b ≡ books_after (book_of a) steps
  desk : b.desk ≡ desks_after a.desk steps

-- one command more in front of them
leads_on : (a b x : Archive) (c : Command) (steps : List BookStep) → IsAcceptable a c → book_of x ≡ book_after (book_of a) c → x.desk ≡ desk_after a.desk c → Leads x b steps → Leads a b (Entered c ∷ steps)
leads_on a b x c steps acceptable book desk rest = record {
  accepted = (acceptable.accepted, subst (λ (k : BookState). AreAcceptedSteps k steps) book rest.accepted);
  allowed = (acceptable.allowed, acceptable.written, subst (λ (k : BookState). AreAllowedSteps k (desk_after a.desk c) steps) book (subst (λ (d : DeskState). AreAllowedSteps (book_of x) d steps) desk rest.allowed));
  book = rest.book ∙ ap (λ (k : BookState). books_after k steps) book;
  desk = rest.desk ∙ ap (λ (d : DeskState). desks_after d steps) desk;
}

-- what is settled of one of them, in front of what the others lead to
one_leads : (a b : Archive) (n : ℤ) (steps : List BookStep) (s : Settling) → IsConsistent a → IsFalse a.desk.is_broken → (has_written (session_in a.desk n) ≡ true → a.desk.counted < a.desk.limit) → settling_in a n ≡ s
    → Leads (settled_by_number a n s) b steps → Leads a b (append_of a n s ++ steps)
one_leads a b n steps (settling.Nothing position) consistent works room is rest = rest
one_leads a b n steps (settling.Blocks id w) consistent works room is rest =
    let s = settling_session a.desk n id w (session_in a.desk n) refl is in
    let wrote : has_written (session_in a.desk n) ≡ true = ap has_written s.found ∙ ap is_some s.written in
    let settles = settling_accepted a n id w consistent (decided_blocks a n id w works (room wrote) is) in
    leads_on a b (settled_archive a n id) (commands.Append id (a.blocks n)) steps settles.acceptable (settled_counts a n id settles) (sym settles.same) rest

all_lead : (a : Archive) (ns : List ℤ) → IsConsistent a → IsFalse a.desk.is_broken → HasRoomBehind a.desk ns → Leads a (settled_archives ns a) (appends_of a ns)
all_lead a [] consistent works room = record { accepted = tt; allowed = tt; book = refl; desk = refl }
all_lead a (n ∷ ns) consistent works room =
    let mid = settled_by_number a n (settling_in a n) in
    let here = room_here a.desk n ns room in
    let behind = behind_one a n ns works room in
    let rest = all_lead mid ns (one_settled a n consistent works here).consistent behind.0 behind.1 in
    one_leads a (settled_archives ns mid) n (appends_of mid ns) (settling_in a n) consistent works here refl rest

group_made : (a : Archive) (ns : List ℤ) (decision : Result Reply Refusal) (reply : Reply) (b : Archive) → IsConsistent a → checked (settle_all_tests a.desk ns) checks (Ok (replies.SettledAll (positions_each ns a.desk))) ≡ decision → Leaves a (settled_archives ns a) decision (Ok reply) b → MakesSteps a b (events.SettleAll ns)
group_made a ns (Err r) reply b consistent is h = absurd (let clash = h.0 in cc)
group_made a ns (Ok answer) reply b consistent is h =
    let may = may_of_all a.desk ns (held (settle_all_tests a.desk ns) checks (replies.SettledAll (positions_each ns a.desk)) answer is).0 in
    let leads = all_lead a ns consistent may.works may.room in
    record {
      accepted = leads.accepted;
      allowed = leads.allowed;
      book = ap book_of h.1 ∙ leads.book;
      works = λ some. may.works;
      desk = λ some. ap (λ (x : Archive). x.desk) h.1 ∙ leads.desk;
    }

-- ---- a checkpoint

checkpoint_works : (d : DeskState) (done : Unit {0}) → checked (sweep_tests d) checks (Ok tt) ≡ Ok done → IsFalse d.is_broken
checkpoint_works d done is =
    let all : (not d.is_broken ≡ true) × (true ≡ true) = both (held (sweep_tests d) checks tt done is).0 in
    by d.is_broken all.0
  where
    by : (b : Bool) → not b ≡ true → b ≡ false
    by true works = absurd (true≢false (sym works))
    by false works = refl

anew_made : (a : Archive) (decision : Result (Unit {0}) Refusal) (reply : Reply) (b : Archive) → IsConsistent a → checked (sweep_tests a.desk) checks (Ok tt) ≡ decision → CheckpointEnds a decision (Ok reply) b → MakesSteps a b events.Checkpoint
anew_made a (Err r) reply b consistent is h = absurd (let clash = h.0 in cc)
anew_made a (Ok done) reply b consistent is (inr (inl h)) = absurd (let clash = h.0 in cc)
anew_made a (Ok done) reply b consistent is (inr (inr h)) = absurd (let clash = h.0 in cc)
anew_made a (Ok done) reply b consistent is (inl h) = record {
  accepted = tt;
  allowed = tt;
  book = ap book_of h.1 ∙ ap (λ (g : RegisterState). record (book_of a) { counted = active_count g }) consistent.agrees;
  works = λ some. checkpoint_works a.desk done is;
  desk = λ some. ap (λ (x : Archive). x.desk) h.1;
}

-- ---- the other calls

left_made : (a x : Archive) (event : Event) (decision : Result Reply Refusal) (reply : Reply) (b : Archive) → steps_asked a event ≡ [] → book_of x ≡ book_of a → Leaves a x decision (Ok reply) b → MakesSteps a b event
left_made a x event (Ok answer) reply b none same h = none_made a x b event none h.1 same
left_made a x event (Err r) reply b none same h = absurd (let clash = h.0 in cc)

opened_made : (a : Archive) (event : Event) (decision : Result Opening Refusal) (reply : Reply) (b : Archive) → steps_asked a event ≡ [] → OpeningEnds a decision (Ok reply) b → MakesSteps a b event
opened_made a event (Err r) reply b none h = absurd (let clash = h.0 in cc)
opened_made a event (Ok o) reply b none h = none_made a _ b event none h.1 refl

polled_made : (a : Archive) (event : Event) (replay : OpenReplay) (most : ℤ) (limit : Option ℤ) (found : Option Recording) (reply : Reply) (b : Archive) → steps_asked a event ≡ [] → PolledEnds a replay most limit found (Ok reply) b → MakesSteps a b event
polled_made a event replay most limit None reply b none h = absurd h
polled_made a event replay most limit (Some r) reply b none h = none_made a _ b event none h.1 refl

polling_made : (a : Archive) (event : Event) (most : ℤ) (limit : Option ℤ) (decision : Result OpenReplay Refusal) (reply : Reply) (b : Archive) → steps_asked a event ≡ [] → PollingEnds a most limit decision (Ok reply) b → MakesSteps a b event
polling_made a event most limit (Err r) reply b none h = absurd (let clash = h.0 in cc)
polling_made a event most limit (Ok replay) reply b none h = polled_made a event replay most limit (recording_at a replay.recording) reply b none h

sweep_made : (a : Archive) (decision : Result (Unit {0}) Refusal) (reply : Reply) (b : Archive) → SweepEnds a decision (Ok reply) b → MakesSteps a b events.Sweep
sweep_made a (Err r) reply b h = absurd (let clash = h.0 in cc)
sweep_made a (Ok done) reply b h = none_made a a b events.Sweep refl h.1.1 refl

pub makes_asked : (a : Archive) (event : Event) (reply : Reply) (b : Archive) → IsConsistent a → ArchiveEnds a event (Ok reply) b → MakesSteps a b event
makes_asked a (events.Ask request) reply b consistent h =
    asked_made a request (asked_frames a (decision_of a.desk request)) reply b (λ c is. decided_accepted a request c consistent.agrees is) (λ c is. framed_asked a request (decision_of a.desk request) c refl is)
    (λ answer is. answered_asks_none a request answer is) h
makes_asked a (events.Write session block) reply b consistent (fits, says, h) = left_made a _ (events.Write session block) (write_decision a.desk session _ fits) reply b refl refl h
makes_asked a (events.Settle session) reply b consistent h = settled_made a session (settle_decision a.desk session) reply b consistent refl h
makes_asked a (events.SettleAll sessions) reply b consistent h = group_made a sessions _ reply b consistent refl h
makes_asked a (events.ReplayOpen id position size) reply b consistent h = opened_made a (events.ReplayOpen id position size) (asked_opening a id (open_decision a.desk id position size)) reply b refl h
makes_asked a (events.ReplayPoll number most) reply b consistent h = polling_made a (events.ReplayPoll number most) most None (poll_decision a.desk number most None) reply b refl h
makes_asked a (events.ReplayPollTo number most limit) reply b consistent h = polling_made a (events.ReplayPollTo number most limit) most (Some limit) (poll_decision a.desk number most (Some limit)) reply b refl h
makes_asked a (events.ReplayClose number) reply b consistent h = left_made a _ (events.ReplayClose number) (close_decision a.desk number) reply b refl refl h
makes_asked a events.Sweep reply b consistent h = sweep_made a (checked (sweep_tests a.desk) checks (Ok tt)) reply b h
makes_asked a (events.Verify id) reply b consistent h = left_made a a (events.Verify id) _ reply b refl refl h
makes_asked a events.Checkpoint reply b consistent h = anew_made a (checked (sweep_tests a.desk) checks (Ok tt)) reply b consistent refl h

-- ---- how many steps a call asks for

few_of_request : (o : Option Command) → length (request_steps o) ≤ 1
few_of_request None = omega arith
few_of_request (Some c) = omega arith

few_of_settling : (a : Archive) (n : ℤ) (s : Settling) → length (append_of a n s) ≤ 1
few_of_settling a n (settling.Nothing position) = omega arith
few_of_settling a n (settling.Blocks id w) = omega arith

few_of_all : (a : Archive) (ns : List ℤ) → length (appends_of a ns) ≤ length ns
few_of_all a [] = omega arith
few_of_all a (n ∷ ns) =
    let mid = settled_by_number a n (settling_in a n) in
    let one = few_of_settling a n (settling_in a n) in
    let rest = few_of_all mid ns in
    let sum = length-append (append_of a n (settling_in a n)) (appends_of mid ns) in
    omega (arith, one, rest, sum)

pub asks_few : (a : Archive) (event : Event) → AsksFew a event
asks_few a (events.Ask request) = few_of_request (asked_command request)
asks_few a (events.Write session block) = omega arith
asks_few a (events.Settle session) = few_of_settling a session (settling_in a session)
asks_few a (events.SettleAll sessions) = few_of_all a sessions
asks_few a (events.ReplayOpen id position size) = omega arith
asks_few a (events.ReplayPoll number most) = omega arith
asks_few a (events.ReplayPollTo number most limit) = omega arith
asks_few a (events.ReplayClose number) = omega arith
asks_few a events.Sweep = omega arith
asks_few a (events.Verify id) = omega arith
asks_few a events.Checkpoint = omega arith
