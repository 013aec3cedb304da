-- How a request is answered.
use Rattle.std.proofs.Common.{◌≡◌, ◌++◌, ◌∙◌, inl, inr, sym, ap, subst, refl, Bool, true, false, true≢false, cond, Option, Some, None, IsTrue, IsFalse, List, [], ◌∷◌, ℤ}
use Rattle.std.specs.Prelude.{IfOk, Result, Ok, Err, is_some}
use Rattle.engine_core.proofs.Words.{Accepts, Allows, Archive, ArchiveEnds, BadPosition, CallEnds, Command, CommitEnds, CommitsEntry, Content, Decides, Decision, DeskState, DeviceFault, EndsAs, EndsEvent, EngineState, Event, HasFailed, IsRequested, NoMemory, Outcome, Recording, Refusal, Registration, Reply, Request, Stepped, Tests, archive_after, archive_of, begins_frame, block_checks, book_of, checked, checks, command_in, decision_of, first_checks, is_end, last_checks, passes, recording_at, registration_in, registration_of, reply_after, takes_memory}
use Rattle.archive_model.specs.declared.command.Command.TheVariants as commands
use Rattle.archive_model.specs.declared.reply.Reply.TheVariants as replies
use Rattle.archive_model.specs.Accepting.{begins_in}
use Rattle.control_core.specs.declared.asked.Asked.TheVariants as calls
use Rattle.control_core.specs.declared.asked.Told.TheVariants as told
use Rattle.control_core.specs.Decided as decisions
use Rattle.control_core.specs.declared.event.Event.TheVariants as events
use Rattle.control_core.specs.declared.request.Request.TheVariants as requests
use Rattle.control_core.specs.Agreement.{Agrees}
use Rattle.control_core.specs.Consistent.{is_asked}
use Rattle.control_core.specs.Decisions.{accepted, answered, command_tests, decided, extend_tests, find_tests, greatest, if_boundary, list_tests, listed, on_truncate, positions_reply, positions_tests, source_reply, source_tests, purge_segments_tests, purge_tests, start_tests, stop_tests, truncate_tests}
use Rattle.control_core.specs.Exact.{DecisionEnds, asked_frames, plain, reads_files, waits_for_frames, writes_files}
use Rattle.control_core.specs.Machine.{Decided, OrOutside, Outside}
use Rattle.control_core.proofs.AgreementLemmas.{allowed, answered_none, at_boundary, in_front, passing}
use Rattle.control_core.proofs.CallLemmas.{asked_works}
use Rattle.control_core.proofs.DecidedLemmas.{decided_accepted}
use Rattle.engine_core.specs.Calls.{is_cut}
use Rattle.engine_core.proofs.calls.EndedLemmas.{ended_as, spared_by}
use Rattle.engine_core.proofs.calls.InsideLemmas.{BegunEnds, InsideEnds, MakesInside, commit_cause, commit_step, some_content}
use Rattle.engine_core.proofs.calls.KnownLemmas.{known_recording}
use Rattle.engine_core.proofs.calls.ShownLemmas.{ComesBehind, among, comes_behind}
use Rattle.engine_core.proofs.calls.SweepCallLemmas.{one_refusal, unmoved}

-- ---- what is decided is no device fault

-- each refusal but a device fault
abbrev is_other : Tests
is_other DeviceFault = false
is_other _ = true

-- an outcome that is no device fault
abbrev NoFault : {X : Type 0} → Result X Refusal → Type 0
NoFault (Ok x) = Unit {0}
NoFault (Err refusal) = is_other refusal ≡ true

never : {X : Type 0} (outcome : Result X Refusal) → NoFault outcome → outcome ≡ Err DeviceFault → ⊥
never outcome none is = true≢false (sym (subst NoFault is none))

checked_by : {X : Type 0} (P : Result X Refusal → Type 0) (tests : Tests) (rs : List Refusal) (answer : Result X Refusal) → passes is_other rs ≡ true → ((r : Refusal) → is_other r ≡ true → P (Err r)) → P answer → P (checked tests rs answer)
checked_by P tests rs answer others err ok = among P is_other tests rs answer others err ok

-- a decision that names no device fault
abbrev DecidesOther : Decision → Type 0
DecidesOther (decisions.Refused refusal) = is_other refusal ≡ true
DecidesOther (decisions.Answered reply) = Unit {0}
DecidesOther (decisions.Accepted command) = Unit {0}
DecidesOther (decisions.IfBoundary id position behind) = NoFault behind

accepted_other : (o : Result Command Refusal) → NoFault o → DecidesOther (accepted o)
accepted_other (Ok command) none = tt
accepted_other (Err refusal) none = none

answered_other : (o : Result Reply Refusal) → NoFault o → DecidesOther (answered o)
answered_other (Ok reply) none = tt
answered_other (Err refusal) none = none

checked_command : (tests : Tests) (command : Command)
    → DecidesOther (accepted (checked tests checks (Ok command)))
checked_command tests command = accepted_other (checked tests checks (Ok command)) (checked_by NoFault tests checks (Ok command) refl (λ r other. other) tt)

checked_reply : (tests : Tests) (reply : Reply)
    → DecidesOther (answered (checked tests checks (Ok reply)))
checked_reply tests reply = answered_other (checked tests checks (Ok reply)) (checked_by NoFault tests checks (Ok reply) refl (λ r other. other) tt)

boundary_other : (found : Option Registration) (id position : ℤ) (behind : Result Command Refusal)
    → NoFault behind → DecidesOther (if_boundary found id position behind)
boundary_other None id position behind none = accepted_other behind none
boundary_other (Some r) id position behind none = by (is_end position r)
  where
    by : (b : Bool) → DecidesOther (cond b (accepted behind) (decisions.IfBoundary id position behind))
    by true = accepted_other behind none
    by false = none

truncate_other : (d : DeskState) (id position : ℤ) → DecidesOther (on_truncate d id position)
truncate_other d id position =
    let tests = truncate_tests d id position in
    let found = registration_in d.register id in
    let behind = checked tests (block_checks ++ last_checks) (Ok (commands.Truncate id position)) in
    let none : NoFault behind = checked_by NoFault tests (block_checks ++ last_checks) (Ok (commands.Truncate id position)) refl (λ r other. other) tt in
    checked_by (λ (o : Result Decision Refusal). DecidesOther (decided o)) tests first_checks (Ok (if_boundary found id position behind)) refl (λ r other. other) (boundary_other found id position behind none)

request_other : (d : DeskState) (request : Request) → DecidesOther (decision_of d request)
request_other d (requests.Start f) = checked_command (start_tests d f) (commands.Start f)
request_other d (requests.Stop id timestamp) = checked_command (stop_tests d id timestamp) (commands.Stop id timestamp)
request_other d (requests.Extend f) = checked_command (extend_tests d f) (commands.Extend f)
request_other d (requests.Truncate id position) = truncate_other d id position
request_other d (requests.PurgeSegments id position) = checked_command (purge_segments_tests d id position) (commands.PurgeSegments id position)
request_other d (requests.PurgeRecording id) = checked_command (purge_tests d id) (commands.PurgeRecording id)
request_other d (requests.List from count) = checked_reply (list_tests from count) (replies.Recordings (listed from count d.register.recordings))
request_other d (requests.Find f) = checked_reply (find_tests f) (replies.Found (greatest f d.register.recordings))
request_other d (requests.Positions id) = checked_reply (positions_tests d id) (positions_reply (registration_in d.register id))
request_other d (requests.Source id) = checked_reply (source_tests d id) (source_reply (registration_in d.register id))

refused_other : (takes : Bool) (d : DeskState) (request : Request) (refusal : Refusal)
    → Decides takes (decisions.Refused refusal) (decision_of d request) → refusal ≡ DeviceFault → ⊥
refused_other takes d request refusal decides is =
    let made : decisions.Refused DeviceFault ≡ decision_of d request = subst (λ (r : Refusal). Decides takes (decisions.Refused r) (decision_of d request)) is decides in
    let other : DecidesOther (decisions.Refused DeviceFault) = subst DecidesOther (sym made) (request_other d request) in
    true≢false (sym other)

behind_other : (d : DeskState) (request : Request) (id position : ℤ) (behind : Result Command Refusal) → decisions.IfBoundary id position behind ≡ decision_of d request → NoFault behind
behind_other d request id position behind is = subst DecidesOther (sym is) (request_other d request)

-- ---- what is decided is a command that one may ask for: no append, and no restart

made_asked : (d : DeskState) (made c : Command) → is_asked made ≡ true → command_in (accepted (checked (command_tests d made) checks (Ok made))) ≡ Some c → is_asked c ≡ true
made_asked d made c asked is = subst (λ (x : Command). is_asked x ≡ true) (passing (command_tests d made) checks made c is).1 asked

asked : (d : DeskState) (request : Request) (c : Command)
    → command_in (decision_of d request) ≡ Some c → is_asked c ≡ true
asked d (requests.Start f) c is = made_asked d (commands.Start f) c refl is
asked d (requests.Stop id timestamp) c is = made_asked d (commands.Stop id timestamp) c refl is
asked d (requests.Extend f) c is = made_asked d (commands.Extend f) c refl is
asked d (requests.Truncate id position) c is =
    let tests = truncate_tests d id position in
    let made = commands.Truncate id position in
    let behind = checked tests (block_checks ++ last_checks) (Ok made) in
    let found = registration_in d.register id in
    let first = in_front tests first_checks (if_boundary found id position behind) c is in
    let second = passing tests (block_checks ++ last_checks) made c (at_boundary found id position behind c first.1) in
    subst (λ (x : Command). is_asked x ≡ true) second.1 refl
asked d (requests.PurgeSegments id position) c is = made_asked d (commands.PurgeSegments id position) c refl is
asked d (requests.PurgeRecording id) c is = made_asked d (commands.PurgeRecording id) c refl is
asked d (requests.List from count) c is = absurd (answered_none _ c is)
asked d (requests.Find f) c is = absurd (answered_none _ c is)
asked d (requests.Positions id) c is = absurd (answered_none _ c is)
asked d (requests.Source id) c is = absurd (answered_none _ c is)

requested_of : (c : Command) → IsTrue (is_asked c) → IsRequested c
requested_of (commands.Start f) asks = tt
requested_of (commands.Append id blocks) asks = absurd (true≢false (sym asks))
requested_of (commands.Stop id timestamp) asks = tt
requested_of (commands.Extend f) asks = tt
requested_of (commands.Truncate id position) asks = tt
requested_of (commands.PurgeSegments id position) asks = tt
requested_of (commands.PurgeRecording id) asks = tt
requested_of commands.Restart asks = tt

-- of a desk that works, whoever asks
pub decided_requested : (d : DeskState) (request : Request) (c : Command)
    → command_in (decision_of d request) ≡ Some c → IsRequested c × Allows d c × IsFalse d.is_broken
decided_requested d request c is =
    let asks = asked d request c is in
    let allows = allowed d request c is in
    (requested_of c asks, allows, asked_works d c asks allows)

-- ---- the frames are asked of a position strictly inside a recording

-- what a decision that asks the frames says of its recording
pub record AsksInside (d : DeskState) (request : Request) (id position : ℤ) (behind : Result Command Refusal) : Type 0 where
  pub known : Registration
  pub found : registration_in d.register id ≡ Some known
  pub inside : is_end position known ≡ false
  pub cut : is_cut (events.Ask request) ≡ true
  pub comes : ComesBehind behind

not_accepted : (o : Result Command Refusal) (id position : ℤ) (behind : Result Command Refusal)
    → accepted o ≡ decisions.IfBoundary id position behind → ⊥
not_accepted (Ok c) id position behind is = cc
not_accepted (Err refusal) id position behind is = cc

not_answered : (o : Result Reply Refusal) (id position : ℤ) (behind : Result Command Refusal)
    → answered o ≡ decisions.IfBoundary id position behind → ⊥
not_answered (Ok reply) id position behind is = cc
not_answered (Err refusal) id position behind is = cc

behind_front : (tests : Tests) (rs : List Refusal) (decision : Decision) (id position : ℤ) (behind : Result Command Refusal) → decided (checked tests rs (Ok decision)) ≡ decisions.IfBoundary id position behind → decision ≡ decisions.IfBoundary id position behind
behind_front tests [] decision id position behind is = is
behind_front tests (r ∷ rs) decision id position behind is = by (tests r) is (behind_front tests rs decision id position behind)
  where
    by : (b : Bool) → decided (cond b (checked tests rs (Ok decision)) (Err r)) ≡ decisions.IfBoundary id position behind → (decided (checked tests rs (Ok decision)) ≡ decisions.IfBoundary id position behind → decision ≡ decisions.IfBoundary id position behind) → decision ≡ decisions.IfBoundary id position behind
    by true e rest = rest e
    by false e rest = absurd cc

inside_of : (d : DeskState) (request : Request) (found : Option Registration) (own boundary id position : ℤ) (first behind : Result Command Refusal) → registration_in d.register own ≡ found → is_cut (events.Ask request) ≡ true → ComesBehind first
    → if_boundary found own boundary first ≡ decisions.IfBoundary id position behind → AsksInside d request id position behind
inside_of d request None own boundary id position first behind there cut comes is = absurd (not_accepted first id position behind is)
inside_of d request (Some r) own boundary id position first behind there cut comes is = by (is_end boundary r) refl is
  where
    by : (b : Bool) → is_end boundary r ≡ b → cond b (accepted first) (decisions.IfBoundary own boundary first) ≡ decisions.IfBoundary id position behind → AsksInside d request id position behind
    by true e is = absurd (not_accepted first id position behind is)
    by false e is =
        let same : own ≡ id = cc in
        let at : boundary ≡ position = cc in
        let same_behind : first ≡ behind = cc in
        record { known = r; found = subst (λ (n : ℤ). registration_in d.register n ≡ Some r) same there; inside = subst (λ (p : ℤ). is_end p r ≡ false) at e; cut = cut; comes = subst ComesBehind same_behind comes }

pub asks_inside : (d : DeskState) (request : Request) (id position : ℤ) (behind : Result Command Refusal) → decision_of d request ≡ decisions.IfBoundary id position behind → AsksInside d request id position behind
asks_inside d (requests.Start f) id position behind is = absurd (not_accepted _ id position behind is)
asks_inside d (requests.Stop other timestamp) id position behind is = absurd (not_accepted _ id position behind is)
asks_inside d (requests.Extend f) id position behind is = absurd (not_accepted _ id position behind is)
asks_inside d (requests.Truncate other boundary) id position behind is =
    let tests = truncate_tests d other boundary in
    let first = checked tests (block_checks ++ last_checks) (Ok (commands.Truncate other boundary)) in
    let comes : ComesBehind first = among ComesBehind comes_behind tests (block_checks ++ last_checks) (Ok (commands.Truncate other boundary)) refl (λ r other. other) tt in
    inside_of d (requests.Truncate other boundary) (registration_in d.register other) other boundary id position first behind refl refl comes
    (behind_front tests first_checks (if_boundary (registration_in d.register other) other boundary first) id position behind is)
asks_inside d (requests.PurgeSegments other boundary) id position behind is = absurd (not_accepted _ id position behind is)
asks_inside d (requests.PurgeRecording other) id position behind is = absurd (not_accepted _ id position behind is)
asks_inside d (requests.List from count) id position behind is = absurd (not_answered _ id position behind is)
asks_inside d (requests.Find f) id position behind is = absurd (not_answered _ id position behind is)
asks_inside d (requests.Positions other) id position behind is = absurd (not_answered _ id position behind is)
asks_inside d (requests.Source other) id position behind is = absurd (not_answered _ id position behind is)

pub inside_leads : (d : DeskState) (request : Request) (id position : ℤ) (behind : Result Command Refusal) (c : Command) → decisions.IfBoundary id position behind ≡ decision_of d request → behind ≡ Ok c → command_in (decision_of d request) ≡ Some c
inside_leads d request id position behind c is ok = ap command_in (sym is) ∙ ap (λ (b : Result Command Refusal). command_in (decisions.IfBoundary id position b)) ok

pub requested_inside : (d : DeskState) (request : Request) (id position : ℤ) (behind : Result Command Refusal) (c : Command) → decisions.IfBoundary id position behind ≡ decision_of d request → behind ≡ Ok c
    → IsRequested c × Allows d c × IsFalse d.is_broken
requested_inside d request id position behind c is ok = decided_requested d request c (inside_leads d request id position behind c is ok)

-- what the frames say of it
inside_is : (a : Archive) (request : Request) (id position : ℤ) (behind : Result Command Refusal) (r : Recording) → decision_of a.desk request ≡ decisions.IfBoundary id position behind → recording_at a id ≡ Some r
    → asked_frames a (decision_of a.desk request) ≡ cond (begins_frame position r) (accepted behind) (decisions.Refused BadPosition)
inside_is a request id position behind r is found = ap (asked_frames a) is ∙ ap (λ (o : Option Recording). cond (begins_in o position) (accepted behind) (decisions.Refused BadPosition)) found

inside_accepts : (a : Archive) (request : Request) (id position : ℤ) (behind : Result Command Refusal) (r : Recording) → Agrees a.desk a.state → decision_of a.desk request ≡ decisions.IfBoundary id position behind → recording_at a id ≡ Some r
    → begins_frame position r ≡ true → IfOk behind (λ c. Accepts (book_of a) c)
inside_accepts a request id position (Ok c) r agrees is found begins =
    (decided_accepted a request c agrees (inside_is a request id position (Ok c) r is found ∙ ap (λ (t : Bool). cond t (decisions.Accepted c) (decisions.Refused BadPosition)) begins)).0.accepted
inside_accepts a request id position (Err refusal) r agrees is found begins = tt

-- ---- how a call ends

-- a commit that is a call
pub commit_call : (a : Archive) (event : Event) (reply : Reply) (b : Archive) (faulted : Type 0) (outcome : Result Reply Refusal) (c : Archive) → IsTrue (writes_files a.desk event) → ArchiveEnds a event (Ok reply) b → CommitEnds a reply b faulted outcome c → CallEnds a event faulted outcome c
commit_call a event reply b faulted (Ok told) c writes ends (is, same) = subst (λ (r : Reply). ArchiveEnds a event (Ok r) c) (sym is) (subst (λ (x : Archive). ArchiveEnds a event (Ok reply) x) (sym same) ends)
commit_call a event reply b faulted (Err NoMemory) c writes ends same = inr same
commit_call a event reply b faulted (Err DeviceFault) c writes ends (cause, same) = inr (cause, inr (writes, (b.state, (reply, (b, ends, refl)), same)))
commit_call a event reply b faulted (Err refusal) c writes ends never = absurd never

-- a refusal
pub refused_ends : (a : Archive) (request : Request) (refusal : Refusal) (faulted : Type 0) → Decides (takes_memory request) (decisions.Refused refusal) (decision_of a.desk request) → CallEnds a (events.Ask request) faulted (Err refusal) a
refused_ends a request NoMemory faulted decides = inr refl
refused_ends a request refusal faulted decides = inl (subst (λ (d : Decision). DecisionEnds a (asked_frames a d) (Err refusal) a) decides (refl, refl))

-- a reply
pub answered_ends : (a : Archive) (request : Request) (reply : Reply) (faulted : Type 0) → Decides (takes_memory request) (decisions.Answered reply) (decision_of a.desk request) → CallEnds a (events.Ask request) faulted (Ok reply) a
answered_ends a request reply faulted decides = subst (λ (d : Decision). DecisionEnds a (asked_frames a d) (Ok reply) a) decides (refl, refl)

-- a command, also once the frames were asked
pub accepted_ends : (a : Archive) (request : Request) (c : Command) → asked_frames a (decision_of a.desk request) ≡ decisions.Accepted c → ArchiveEnds a (events.Ask request) (Ok (reply_after a.desk c)) (archive_after a c)
accepted_ends a request c is = subst (λ (d : Decision). DecisionEnds a d (Ok (reply_after a.desk c)) (archive_after a c)) (sym is) (refl, refl)

refused_as : (a : Archive) (request : Request) (refusal : Refusal) (outcome : Result Reply Refusal) (b : Archive) → asked_frames a (decision_of a.desk request) ≡ decisions.Refused refusal → (outcome ≡ Err refusal) × (b ≡ a) → ArchiveEnds a (events.Ask request) outcome b
refused_as a request refusal outcome b is same = subst (λ (d : Decision). DecisionEnds a d outcome b) (sym is) same

outside_call : (a : Archive) (event : Event) (faulted : Type 0) (refusal : Refusal) (b : Archive) → IsTrue (reads_files a.desk event) → Outside a faulted (λ x. x ≡ a) refusal b → CallEnds a event faulted (Err refusal) b
outside_call a event faulted NoMemory b reads is = inr is
outside_call a event faulted DeviceFault b reads is = inr (is.0, inl (reads, is.1))
outside_call a event faulted refusal b reads is = absurd is

begun_call : (a : Archive) (request : Request) (id position : ℤ) (behind : Result Command Refusal) (faulted : Type 0) (outcome : Result Reply Refusal) (b : Archive) → decision_of a.desk request ≡ decisions.IfBoundary id position behind → asked_frames a (decision_of a.desk request) ≡ accepted behind
    → BegunEnds a behind faulted outcome b → CallEnds a (events.Ask request) faulted outcome b
begun_call a request id position (Ok c) faulted outcome b decides is ends = commit_call a (events.Ask request) (reply_after a.desk c) (archive_after a c) faulted outcome b (ap (λ (d : Decision). is_some (command_in d)) decides) (accepted_ends a request c is) ends
begun_call a request id position (Err refusal) faulted (Ok reply) b decides is ends = absurd (none ends.0)
  where
    none : Ok reply ≡ Err refusal → ⊥
    none e = cc
begun_call a request id position (Err refusal) faulted (Err other) b decides is ends = inl (refused_as a request refusal (Err other) b is ends)

pub inside_ends : (a : Archive) (request : Request) (id position : ℤ) (behind : Result Command Refusal) (r : Recording) (faulted : Type 0) (outcome : Result Reply Refusal) (b : Archive) → decision_of a.desk request ≡ decisions.IfBoundary id position behind
    → recording_at a id ≡ Some r → InsideEnds a (begins_frame position r) behind faulted outcome b → CallEnds a (events.Ask request) faulted outcome b
inside_ends a request id position behind r faulted outcome b is found = by (begins_frame position r) outcome (inside_is a request id position behind r is found)
  where
    reads : IsTrue (reads_files a.desk (events.Ask request))
    reads = ap waits_for_frames is

    by : (t : Bool) (o : Result Reply Refusal) → asked_frames a (decision_of a.desk request) ≡ cond t (accepted behind) (decisions.Refused BadPosition) → InsideEnds a t behind faulted o b → CallEnds a (events.Ask request) faulted o b
    by true (Ok reply) asked ends = begun_call a request id position behind faulted (Ok reply) b is asked ends
    by true (Err refusal) asked ends = elim ends [ inl begun ↦ begun_call a request id position behind faulted (Err refusal) b is asked begun | inr out ↦ outside_call a (events.Ask request) faulted refusal b reads out ]
    by false (Ok reply) asked ends = absurd (none ends.0)
      where
        none : Ok reply ≡ Err BadPosition → ⊥
        none e = cc
    by false (Err refusal) asked ends = elim ends [ inl bad ↦ inl (refused_as a request BadPosition (Err refusal) b asked bad) | inr out ↦ outside_call a (events.Ask request) faulted refusal b reads out ]

-- ---- how a request is answered

-- what is decided says what the desk machine allows
step_by : (d new : DeskState) (request : Request) (decision : Decision) (o : Outcome) → decision_of d request ≡ decision → OrOutside d ⊥ (λ x. ⊥) (Decided d decision) o new → Stepped d (calls.Ask request) o new
step_by d new request decision o is step = subst (λ (x : Decision). OrOutside d ⊥ (λ y. ⊥) (Decided d x) o new) (sym is) step

refused_step : (d : DeskState) (request : Request) (refusal : Refusal) → Decides (takes_memory request) (decisions.Refused refusal) (decision_of d request) → Stepped d (calls.Ask request) (Err refusal) d
refused_step d request NoMemory decides = inr refl
refused_step d request refusal decides = step_by d d request (decisions.Refused refusal) (Err refusal) (sym decides) (inl (refl, refl))

no_sweep : (request : Request) → events.Ask request ≡ events.Sweep → ⊥
no_sweep request is = cc

-- a refusal
pub ask_refused : (old : EngineState) (request : Request) (refusal : Refusal) → Decides (takes_memory request) (decisions.Refused refusal) (decision_of old.desk request) → EndsEvent old old (events.Ask request) (Err refusal)
ask_refused old request refusal decides =
    unmoved old (events.Ask request) (Err refusal) refl (λ fault. refused_other (takes_memory request) old.desk request refusal decides (one_refusal (Err refusal) refusal DeviceFault refl fault)) (λ removed sweep is. no_sweep request sweep)
    (refused_step old.desk request refusal decides) (λ c was. ((λ reads. refused_ends (archive_of old c) request refusal (HasFailed old.life old.life) decides), tt))

-- a reply
pub ask_answered : (old : EngineState) (request : Request) (reply : Reply) → Decides (takes_memory request) (decisions.Answered reply) (decision_of old.desk request) → EndsEvent old old (events.Ask request) (Ok reply)
ask_answered old request reply decides =
    unmoved old (events.Ask request) (Ok reply) refl (λ fault. let clash = fault in cc) (λ removed sweep is. no_sweep request sweep)
    (step_by old.desk old.desk request (decisions.Answered reply) (Ok (told.Reply reply)) (sym decides) (refl, refl)) (λ c was. ((λ reads. answered_ends (archive_of old c) request reply (HasFailed old.life old.life) decides), tt))

-- a command
pub ask_made : (old new : EngineState) (request : Request) (command : Command) (outcome : Result Reply Refusal) → decision_of old.desk request ≡ decisions.Accepted command
    → CommitsEntry old new (λ a. Accepts (book_of a) command) (reply_after old.desk command) (λ a. archive_after a command) outcome → EndsEvent old new (events.Ask request) outcome
ask_made old new request command outcome is commits = record {
  goes_on = commits.goes_on;
  bank = commits.bank;
  cause = λ fault. commit_cause (archive_of old some_content) (archive_after (archive_of old some_content) command) (reply_after old.desk command) (HasFailed old.life new.life) outcome (archive_of new some.0) some.1 fault;
  machine = step_by old.desk new.desk request (decisions.Accepted command) (plain outcome) is (commit_step (archive_of old some_content) command (HasFailed old.life new.life) outcome (archive_of new some.0) some.1);
  kept = spared_by _ _ old new outcome (λ harmless. harmless.1) commits.kept;
  swept = λ removed sweep told. absurd (no_sweep request sweep);
  ended = λ c was cut.
      let a = archive_of old c in
      let faulted = HasFailed old.life new.life in
      let frames : asked_frames a (decision_of a.desk request) ≡ decisions.Accepted command = ap (asked_frames a) is in
      ended_as old new a (CommitEnds a (reply_after a.desk command) (archive_after a command) faulted outcome) (EndsAs old.life new.life (events.Ask request) a outcome)
      (λ b ends. ((λ reads. commit_call a (events.Ask request) (reply_after a.desk command) (archive_after a command) faulted outcome b (ap (λ (d : Decision). is_some (command_in d)) is) (accepted_ends a request command frames) ends), tt))
      (commits.ended c was (decided_accepted a request command was.archive.agrees frames).0.accepted);
}
  where
    some : (after : Content) × CommitEnds (archive_of old some_content) (reply_after old.desk command) (archive_after (archive_of old some_content) command) (HasFailed old.life new.life) outcome (archive_of new after)
    some = commits.exact some_content

-- what the frames are asked for
pub ask_inside : (old new : EngineState) (request : Request) (id position : ℤ) (behind : Result Command Refusal) (outcome : Result Reply Refusal) → decision_of old.desk request ≡ decisions.IfBoundary id position behind
    → MakesInside old new id position behind outcome → EndsEvent old new (events.Ask request) outcome
ask_inside old new request id position behind outcome is makes = record {
  goes_on = makes.goes_on;
  bank = makes.bank;
  cause = λ fault. elim (makes.cause fault) [
    | inl decided ↦ absurd (never behind (behind_other old.desk request id position behind (sym is)) decided)
    | inr failed ↦ failed
  ];
  machine = step_by old.desk new.desk request (decisions.IfBoundary id position behind) (plain outcome) is makes.machine;
  kept = spared_by _ _ old new outcome (λ harmless. harmless.1) makes.kept;
  swept = λ removed sweep told. absurd (no_sweep request sweep);
  ended = λ c was cut.
      let a = archive_of old c in
      let inside = asks_inside old.desk request id position behind is in
      let known = known_recording a id inside.known was.archive.agrees inside.found in
      let r = known.recording in
      let strictly : is_end position (registration_of r) ≡ false = subst (λ (g : Registration). is_end position g ≡ false) known.is inside.inside in
      ended_as old new a (InsideEnds a (begins_frame position r) behind (HasFailed old.life new.life) outcome) (EndsAs old.life new.life (events.Ask request) a outcome)
      (λ b ends. ((λ reads. inside_ends a request id position behind r (HasFailed old.life new.life) outcome b is known.found ends), tt))
      (makes.ended c r was known.found strictly (λ begins. inside_accepts a request id position behind r was.archive.agrees is known.found begins) (cut inside.cut));
}
