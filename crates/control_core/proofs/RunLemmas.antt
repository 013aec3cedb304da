-- Calls one after another, and the commands that they made.
use Rattle.std.proofs.Common.{◌≡◌, ◌⊎◌, inl, inr, not, ℤ, Bool, true, false, cond, List, [], ◌∷◌, Option, Some, None, Result, Ok, Err, refl, sym, ap, subst, ◌∙◌, true≢false}
use Rattle.std.specs.Prelude.{IsFalse, IsTrue, is_some}
use Rattle.frame_core.specs.declared.refusal.Refusal.{Refusal}
use Rattle.frame_core.specs.declared.refusal.Refusal.TheVariants.{BadPosition, DeviceFault, NoMemory}
use Rattle.archive_model.specs.declared.command.Command.{Command}
use Rattle.archive_model.specs.declared.reply.Reply.{Reply}
use Rattle.archive_model.specs.Acceptance.{BookState}
use Rattle.archive_model.specs.Accepting.{begins_in}
use Rattle.archive_model.specs.Checks.{checked, checks, passes}
use Rattle.archive_model.specs.State.{Recording, State}
use Rattle.archive_model.proofs.WellLemmas.{both}
use Rattle.control_core.specs.declared.callers.OpenReplay.{OpenReplay}
use Rattle.control_core.specs.declared.callers.Written.{Written}
use Rattle.control_core.specs.Decided.{Decision}
use Rattle.control_core.specs.Decided as decisions
use Rattle.control_core.specs.declared.event.Event.{Event}
use Rattle.control_core.specs.declared.event.Event.TheVariants as events
use Rattle.control_core.specs.declared.request.Request.{Request}
use Rattle.control_core.specs.declared.turns.Opening.{Opening}
use Rattle.control_core.specs.declared.turns.Settling.{Settling}
use Rattle.control_core.specs.declared.turns.Settling.TheVariants as settling
use Rattle.control_core.specs.Decisions.{command_in, decision_of}
use Rattle.control_core.specs.Turns.{close_decision, open_decision, poll_decision, session_in, settle_all_tests, settle_decision, settle_tests, settling_of, sweep_tests, write_decision, write_tests, wrote_any}
use Rattle.control_core.specs.Exact.{Archive, ArchiveEnds, CallEnds, CheckpointEnds, DecisionEnds, Leaves, LeftByFault, MakesState, OpeningEnds, PolledEnds, PollingEnds, SettlingEnds, SweepEnds, archive_after, asked_frames, asked_opening, book_of, broken, recording_at, settled_archive, settled_archives, span_of, with_desk, writes_files}
use Rattle.control_core.specs.Changes.{checkpointed}
use Rattle.control_core.specs.Consistent.{IsConsistent, MakesSteps, steps_asked}
use Rattle.control_core.specs.Runs.{AreMade, IsAfterSome, IsHistory, Leave, MayStand, StoodAmong, last_left}
use Rattle.control_core.specs.Steps.{AreAcceptedCalls, AreAcceptedSteps, BookStep, books_after, books_after_calls}
use Rattle.control_core.proofs.CallLemmas.{asked_works, refused_unchanged}
use Rattle.control_core.proofs.ConsistentLemmas.{consistent_call}
use Rattle.control_core.proofs.DecidedLemmas.{decided_accepted, held}
use Rattle.control_core.proofs.GroupLemmas.{all_doubt}
use Rattle.control_core.proofs.MadeLemmas.{makes_asked}

-- ---- an answered call leaves what is in doubt

abbrev pub SameDoubt : Archive → Archive → Type 0
SameDoubt a b = b.doubt ≡ a.doubt

doubt_of : (a x b : Archive) → x.doubt ≡ a.doubt → b ≡ x → SameDoubt a b
doubt_of a x b same is = ap (λ (y : Archive). y.doubt) is ∙ same

asked_doubt : (a : Archive) (decision : Decision) (reply : Reply) (b : Archive) → DecisionEnds a decision (Ok reply) b → SameDoubt a b
asked_doubt a (decisions.Refused r) reply b h = absurd (let clash = h.0 in cc)
asked_doubt a (decisions.Answered answer) reply b h = doubt_of a a b refl h.1
asked_doubt a (decisions.Accepted c) reply b h = doubt_of a (archive_after a c) b refl h.1
asked_doubt a (decisions.IfBoundary id position decided) reply b h = absurd h

left_doubt : (a x : Archive) (decision : Result Reply Refusal) (reply : Reply) (b : Archive) → x.doubt ≡ a.doubt → Leaves a x decision (Ok reply) b → SameDoubt a b
left_doubt a x (Ok answer) reply b same h = doubt_of a x b same h.1
left_doubt a x (Err r) reply b same h = absurd (let clash = h.0 in cc)

settled_doubt : (a : Archive) (session : ℤ) (decision : Result Settling Refusal) (reply : Reply) (b : Archive) → SettlingEnds a session decision (Ok reply) b → SameDoubt a b
settled_doubt a session (Err r) reply b h = absurd (let clash = h.0 in cc)
settled_doubt a session (Ok (settling.Nothing position)) reply b h = doubt_of a a b refl h.1
settled_doubt a session (Ok (settling.Blocks id w)) reply b h = doubt_of a (settled_archive a session id) b refl h.1

opened_doubt : (a : Archive) (decision : Result Opening Refusal) (reply : Reply) (b : Archive) → OpeningEnds a decision (Ok reply) b → SameDoubt a b
opened_doubt a (Err r) reply b h = absurd (let clash = h.0 in cc)
opened_doubt a (Ok o) reply b h = doubt_of a _ b refl h.1

polled_doubt : (a : Archive) (replay : OpenReplay) (most : ℤ) (limit : Option ℤ) (found : Option Recording) (reply : Reply) (b : Archive) → PolledEnds a replay most limit found (Ok reply) b → SameDoubt a b
polled_doubt a replay most limit None reply b h = absurd h
polled_doubt a replay most limit (Some r) reply b h = doubt_of a _ b refl h.1

polling_doubt : (a : Archive) (most : ℤ) (limit : Option ℤ) (decision : Result OpenReplay Refusal) (reply : Reply) (b : Archive) → PollingEnds a most limit decision (Ok reply) b → SameDoubt a b
polling_doubt a most limit (Err r) reply b h = absurd (let clash = h.0 in cc)
polling_doubt a most limit (Ok replay) reply b h = polled_doubt a replay most limit (recording_at a replay.recording) reply b h

sweep_doubt : (a : Archive) (decision : Result (Unit {0}) Refusal) (reply : Reply) (b : Archive) → SweepEnds a decision (Ok reply) b → SameDoubt a b
sweep_doubt a (Err r) reply b h = absurd (let clash = h.0 in cc)
sweep_doubt a (Ok done) reply b h = doubt_of a a b refl h.1.1

checkpoint_doubt : (a : Archive) (decision : Result (Unit {0}) Refusal) (reply : Reply) (b : Archive) → CheckpointEnds a decision (Ok reply) b → SameDoubt a b
checkpoint_doubt a (Err r) reply b h = absurd (let clash = h.0 in cc)
checkpoint_doubt a (Ok done) reply b (inl h) = doubt_of a (with_desk (checkpointed a.desk) a) b refl h.1
checkpoint_doubt a (Ok done) reply b (inr (inl h)) = absurd (let clash = h.0 in cc)
checkpoint_doubt a (Ok done) reply b (inr (inr h)) = absurd (let clash = h.0 in cc)

pub same_doubt : (a : Archive) (event : Event) (reply : Reply) (b : Archive) → ArchiveEnds a event (Ok reply) b → SameDoubt a b
same_doubt a (events.Ask request) reply b h = asked_doubt a (asked_frames a (decision_of a.desk request)) reply b h
same_doubt a (events.Write session block) reply b (fits, says, h) = left_doubt a _ (write_decision a.desk session _ fits) reply b refl h
same_doubt a (events.Settle session) reply b h = settled_doubt a session (settle_decision a.desk session) reply b h
same_doubt a (events.SettleAll sessions) reply b h = left_doubt a (settled_archives sessions a) _ reply b (all_doubt a sessions) h
same_doubt a events.Checkpoint reply b h = checkpoint_doubt a (checked (sweep_tests a.desk) checks (Ok tt)) reply b h
same_doubt a (events.ReplayOpen id position size) reply b h = opened_doubt a (asked_opening a id (open_decision a.desk id position size)) reply b h
same_doubt a (events.ReplayPoll number most) reply b h = polling_doubt a most None (poll_decision a.desk number most None) reply b h
same_doubt a (events.ReplayPollTo number most limit) reply b h = polling_doubt a most (Some limit) (poll_decision a.desk number most (Some limit)) reply b h
same_doubt a (events.ReplayClose number) reply b h = left_doubt a _ (close_decision a.desk number) reply b refl h
same_doubt a events.Sweep reply b h = sweep_doubt a (checked (sweep_tests a.desk) checks (Ok tt)) reply b h
same_doubt a (events.Verify id) reply b h = left_doubt a a _ reply b refl h

-- ---- a broken archive makes no command

broken_not : (b : Bool) → b ≡ true → not b ≡ true → ⊥
broken_not true is works = true≢false (sym works)
broken_not false is works = true≢false (sym is)

accepted_works : (a : Archive) (request : Request) (c : Command) → IsConsistent a → IsTrue a.desk.is_broken → asked_frames a (decision_of a.desk request) ≡ decisions.Accepted c → ⊥
accepted_works a request c consistent broke is =
    let decided = decided_accepted a request c consistent.agrees is in
    true≢false (sym broke ∙ asked_works a.desk c decided.1 decided.0.allowed)

asked_unbroken : (a : Archive) (request : Request) (decision : Decision) (reply : Reply) (b : Archive) → IsConsistent a → IsTrue a.desk.is_broken → decision_of a.desk request ≡ decision → IsTrue (is_some (command_in decision))
    → DecisionEnds a (asked_frames a decision) (Ok reply) b → ⊥
asked_unbroken a request (decisions.Refused r) reply b consistent broke is writes h = true≢false (sym writes)
asked_unbroken a request (decisions.Answered answer) reply b consistent broke is writes h = true≢false (sym writes)
asked_unbroken a request (decisions.Accepted c) reply b consistent broke is writes h = accepted_works a request c consistent broke (ap (asked_frames a) is)
asked_unbroken a request (decisions.IfBoundary id position (Err r)) reply b consistent broke is writes h = true≢false (sym writes)
asked_unbroken a request (decisions.IfBoundary id position (Ok c)) reply b consistent broke is writes h = by (begins_in (recording_at a id) position) refl h
  where
    by : (t : Bool) → begins_in (recording_at a id) position ≡ t → DecisionEnds a (cond t (decisions.Accepted c) (decisions.Refused BadPosition)) (Ok reply) b → ⊥
    by true begins h = accepted_works a request c consistent broke (ap (asked_frames a) is ∙ ap (λ (t : Bool). cond t (decisions.Accepted c) (decisions.Refused BadPosition)) begins)
    by false begins h = let clash = h.0 in absurd cc

written_unbroken : (a x : Archive) (session : ℤ) (w : Written) (fits : Bool) (decision : Result Reply Refusal) (reply : Reply) (b : Archive) → IsTrue a.desk.is_broken → write_decision a.desk session w fits ≡ decision → Leaves a x decision (Ok reply) b → ⊥
written_unbroken a x session w fits (Err r) reply b broke is h = let clash = h.0 in absurd cc
written_unbroken a x session w fits (Ok answer) reply b broke is h =
    broken_not a.desk.is_broken broke (both (held (write_tests a.desk session w fits) checks _ answer is).0).0

settled_unbroken : (a : Archive) (session : ℤ) (decision : Result Settling Refusal) (reply : Reply) (b : Archive) → IsTrue a.desk.is_broken → settle_decision a.desk session ≡ decision → SettlingEnds a session decision (Ok reply) b → ⊥
settled_unbroken a session (Err r) reply b broke is h = let clash = h.0 in absurd cc
settled_unbroken a session (Ok s) reply b broke is h = broken_not a.desk.is_broken broke (both (held (settle_tests a.desk session) checks (settling_of a.desk (session_in a.desk session)) s is).0).0

-- no call that writes is answered there
unbroken : (a : Archive) (event : Event) (reply : Reply) (b : Archive) → IsConsistent a → IsTrue a.desk.is_broken → IsTrue (writes_files a.desk event) → ArchiveEnds a event (Ok reply) b → ⊥
unbroken a (events.Ask request) reply b consistent broke writes h = asked_unbroken a request (decision_of a.desk request) reply b consistent broke refl writes h
unbroken a (events.Write session block) reply b consistent broke writes (fits, says, h) = written_unbroken a _ session (span_of block) fits (write_decision a.desk session (span_of block) fits) reply b broke refl h
unbroken a (events.Settle session) reply b consistent broke writes h = settled_unbroken a session (settle_decision a.desk session) reply b broke refl h
unbroken a (events.SettleAll sessions) reply b consistent broke writes h =
    let passes_all : (passes (settle_all_tests a.desk sessions) checks ≡ true) × (wrote_any a.desk sessions ≡ true) = both writes in
    broken_not a.desk.is_broken broke (both passes_all.0).0
unbroken a events.Checkpoint reply b consistent broke writes h = broken_not a.desk.is_broken broke (both writes).0
unbroken a (events.ReplayOpen id position size) reply b consistent broke writes h = true≢false (sym writes)
unbroken a (events.ReplayPoll number most) reply b consistent broke writes h = true≢false (sym writes)
unbroken a (events.ReplayPollTo number most limit) reply b consistent broke writes h = true≢false (sym writes)
unbroken a (events.ReplayClose number) reply b consistent broke writes h = true≢false (sym writes)
unbroken a events.Sweep reply b consistent broke writes h = true≢false (sym writes)
unbroken a (events.Verify id) reply b consistent broke writes h = true≢false (sym writes)

-- what is recorded, and what is in doubt, are as they were
abbrev pub Same : Archive → Archive → Type 0
Same a b = (book_of b ≡ book_of a) × (b.doubt ≡ a.doubt)

same_as : (a b : Archive) → b ≡ a → Same a b
same_as a b is = (ap book_of is, ap (λ (x : Archive). x.doubt) is)

answered_final : (a : Archive) (event : Event) (reply : Reply) (b : Archive) → IsConsistent a → IsTrue a.desk.is_broken → ArchiveEnds a event (Ok reply) b → Same a b
answered_final a event reply b consistent broke h = (by (steps_asked a event) refl (makes_asked a event reply b consistent h), same_doubt a event reply b h)
  where
    some_step : (step : BookStep) (steps : List BookStep) → step ∷ steps ≡ [] → ⊥
    some_step step steps is = cc

    by : (steps : List BookStep) → steps_asked a event ≡ steps → MakesSteps a b event → book_of b ≡ book_of a
    by [] none made = made.book ∙ ap (books_after (book_of a)) none
    by (step ∷ steps) some made = absurd (true≢false (sym broke ∙ made.works (λ none. some_step step steps (sym some ∙ none))))

left_final : (a : Archive) (event : Event) (b : Archive) → IsConsistent a → IsTrue a.desk.is_broken → LeftByFault a event b → Same a b
left_final a event b consistent broke (inl (reads, same)) = same_as a b same
left_final a event b consistent broke (inr (writes, (u, (reply, (x, ends, state)), same))) = absurd (unbroken a event reply x consistent broke writes ends)

-- a call of a broken archive
final : (a : Archive) (event : Event) (outcome : Result Reply Refusal) (b : Archive) → IsConsistent a → IsTrue a.desk.is_broken → CallEnds a event (Unit {0}) outcome b → Same a b
final a event (Ok reply) b consistent broke ends = answered_final a event reply b consistent broke ends
final a event (Err NoMemory) b consistent broke ends = elim ends [
  | inl exact ↦ same_as a b (refused_unchanged a event NoMemory b exact)
  | inr same ↦ same_as a b same
]
final a event (Err DeviceFault) b consistent broke ends = elim ends [
  | inl exact ↦ same_as a b (refused_unchanged a event DeviceFault b exact)
  | inr out ↦ left_final a event b consistent broke out.1
]
final a event (Err refusal) b consistent broke ends = elim ends [
  | inl exact ↦ same_as a b (refused_unchanged a event refusal b exact)
  | inr out ↦ absurd out
]

-- ---- what stood

-- what is accepted behind a command, and what is in doubt behind it
may_stand_same : (a b : Archive) (x : State) → Same a b → MayStand b x → MayStand a x
may_stand_same a b x same (inl now) = inl (now ∙ ap (λ (y : BookState). y.state) same.0)
may_stand_same a b x same (inr doubt) = inr (sym same.1 ∙ doubt)

-- each of these calls made no step
abbrev pub idle : List Archive → List (List BookStep)
idle [] = []
idle (b ∷ left) = [] ∷ idle left

-- calls of a broken archive leave what is recorded and what is in doubt
abbrev pub IsFinal : Archive → List Event → List Archive → Type 0
IsFinal a events left = AreMade a events left (idle left) × (book_of (last_left a left) ≡ book_of a) × ((x : State) → StoodAmong a left x → MayStand a x)

pub final_run : (a : Archive) (events : List Event) (outcomes : List (Result Reply Refusal)) (left : List Archive) → IsConsistent a → IsTrue a.desk.is_broken → Leave a events outcomes left → IsFinal a events left
final_run a [] [] [] consistent broke run = (tt, refl, λ x stood. stood)
final_run a [] [] (b ∷ left) consistent broke run = absurd run
final_run a [] (outcome ∷ outcomes) left consistent broke run = absurd run
final_run a (event ∷ events) [] left consistent broke run = absurd run
final_run a (event ∷ events) (outcome ∷ outcomes) [] consistent broke run = absurd run
final_run a (event ∷ events) (outcome ∷ outcomes) (b ∷ left) consistent broke (ends, run) =
    let same = final a event outcome b consistent broke ends in
    let next = (consistent_call a event outcome b consistent ends).consistent in
    let still : b.desk.is_broken ≡ true = next.broken ∙ ap is_some same.1 ∙ sym consistent.broken ∙ broke in
    let rest = final_run b events outcomes left next still run in
    ((inl refl, same.0, rest.0), rest.1 ∙ same.0, λ x stood. elim stood [ inl now ↦ now | inr later ↦ may_stand_same a b x same (rest.2 x later) ])

-- ---- what is in doubt

-- what the call asks for, each command accepted, makes this state
abbrev pub MakesAsked : Archive → Event → State → Type 0
MakesAsked a event u = AreAcceptedSteps (book_of a) (steps_asked a event) × (u ≡ (books_after (book_of a) (steps_asked a event)).state)

makes_state : (a : Archive) (event : Event) (u : State) → IsConsistent a → MakesState a event u → MakesAsked a event u
makes_state a event u consistent (reply, (b, ends, state)) =
    let made = makes_asked a event reply b consistent ends in
    (made.accepted, sym state ∙ ap (λ (x : BookState). x.state) made.book)

-- ---- histories

abbrev pub History : Archive → List Event → List Archive → Type 0
History a events left = (steps : List (List BookStep)) × IsHistory a events left steps

-- the first archive's state is what no call gives
first_stands : (a : Archive) (events : List Event) (left : List Archive) (made : List (List BookStep)) (x : State) → a.doubt ≡ None → MayStand a x → IsAfterSome a events left made x
first_stands a events left made x sure (inl now) = inl ([], made, refl, now)
first_stands a events left made x sure (inr doubt) = absurd (let clash : None ≡ Some x = sym sure ∙ doubt in cc)

-- what stood later, behind the steps of a call
stands_later : (a b : Archive) (event : Event) (events : List Event) (left : List Archive) (steps : List BookStep) (made : List (List BookStep)) (x : State) → book_of b ≡ books_after (book_of a) steps
    → IsAfterSome b events left made x → IsAfterSome a (event ∷ events) (b ∷ left) (steps ∷ made) x
stands_later a b event events left steps made x same (inl (front, back, split, is)) =
    inl (steps ∷ front, back, ap (λ (ms : List (List BookStep)). steps ∷ ms) split, is ∙ ap (λ (k : BookState). (books_after_calls k front).state) same)
stands_later a b event events left steps made x same (inr (lost, broke, accepted, is)) =
    inr (lost, inr broke, subst (λ (k : BookState). AreAcceptedSteps (books_after_calls k made) lost) same accepted, is ∙ ap (λ (k : BookState). (books_after (books_after_calls k made) lost).state) same)

-- one call more in front of the others
next_history : (a b : Archive) (event : Event) (events : List Event) (left : List Archive) (steps : List BookStep) → a.doubt ≡ None → (steps ≡ []) ⊎ (steps ≡ steps_asked a event) → AreAcceptedSteps (book_of a) steps → book_of b ≡ books_after (book_of a) steps
    → (made : List (List BookStep)) → IsHistory b events left made → IsHistory a (event ∷ events) (b ∷ left) (steps ∷ made)
next_history a b event events left steps sure asked accepted same made rest = record {
  made = (asked, same, rest.made);
  accepted = (accepted, subst (λ (k : BookState). AreAcceptedCalls k made) same rest.accepted);
  last = rest.last ∙ ap (λ (k : BookState). books_after_calls k made) same;
  prefix = λ x stood. elim stood [
    | inl now ↦ first_stands a (event ∷ events) (b ∷ left) (steps ∷ made) x sure now
    | inr later ↦ stands_later a b event events left steps made x same (rest.prefix x later)
  ];
}

-- no steps of calls leave the book, and are accepted
idle_book : (k : BookState) (left : List Archive) → books_after_calls k (idle left) ≡ k
idle_book k [] = refl
idle_book k (b ∷ left) = idle_book k left

idle_accepted : (k : BookState) (left : List Archive) → AreAcceptedCalls k (idle left)
idle_accepted k [] = tt
idle_accepted k (b ∷ left) = (tt, idle_accepted k left)

-- a write failed: nothing is accepted from then on
last_history : (a b : Archive) (event : Event) (events : List Event) (u : State) (left : List Archive) → IsConsistent a → a.doubt ≡ None → b ≡ broken u a → MakesAsked a event u → IsFinal b events left → IsHistory a (event ∷ events) (b ∷ left) ([] ∷ idle left)
last_history a b event events u left consistent sure is asked final_ones = record {
  made = (inl refl, ap book_of is, final_ones.0);
  accepted = (tt, idle_accepted (book_of a) left);
  last = final_ones.1 ∙ ap book_of is ∙ sym (idle_book (book_of a) left);
  prefix = λ x stood. elim stood [
    | inl now ↦ first_stands a (event ∷ events) (b ∷ left) ([] ∷ idle left) x sure now
    | inr later ↦ at_last x (subst (λ (y : Archive). MayStand y x) is (final_ones.2 x later))
  ];
}
  where
    works : IsFalse a.desk.is_broken
    works = consistent.broken ∙ ap is_some sure

    broke : IsTrue b.desk.is_broken
    broke = ap (λ (y : Archive). y.desk.is_broken) is

    at_last : (x : State) → MayStand (broken u a) x → IsAfterSome a (event ∷ events) (b ∷ left) ([] ∷ idle left) x
    at_last x (inl now) = inl ([], [] ∷ idle left, refl, now)
    at_last x (inr doubt) =
        let same : u ≡ x = cc in
        let book = idle_book (book_of a) left in
        inr (
          steps_asked a event,
          inl (works, broke, refl),
          subst (λ (k : BookState). AreAcceptedSteps k (steps_asked a event)) (sym book) asked.0,
          sym same ∙ asked.1 ∙ ap (λ (k : BookState). (books_after k (steps_asked a event)).state) (sym book),
        )

module _ (a b : Archive) (events : List Event) (left : List Archive) (consistent : IsConsistent a) (sure : a.doubt ≡ None) (rest : b.doubt ≡ None → History b events left) where
  unmoved : (event : Event) → b ≡ a → History a (event ∷ events) (b ∷ left)
  unmoved event is =
      let next = rest (ap (λ (x : Archive). x.doubt) is ∙ sure) in
      ([] ∷ next.0, next_history a b event events left [] sure (inl refl) tt (ap book_of is) next.0 next.1)

  answered_history : (event : Event) (reply : Reply) → ArchiveEnds a event (Ok reply) b → History a (event ∷ events) (b ∷ left)
  answered_history event reply ends =
      let next = rest (same_doubt a event reply b ends ∙ sure) in
      let made = makes_asked a event reply b consistent ends in
      (steps_asked a event ∷ next.0, next_history a b event events left (steps_asked a event) sure (inr refl) made.accepted made.book next.0 next.1)

  fault_history : (event : Event) → ((u : State) → b ≡ broken u a → IsFinal b events left) → LeftByFault a event b → History a (event ∷ events) (b ∷ left)
  fault_history event end (inl (reads, same)) = unmoved event same
  fault_history event end (inr (writes, (u, makes, same))) = ([] ∷ idle left, last_history a b event events u left consistent sure same (makes_state a event u consistent makes) (end u same))

  call_history : (event : Event) (outcome : Result Reply Refusal) → ((u : State) → b ≡ broken u a → IsFinal b events left) → CallEnds a event (Unit {0}) outcome b → History a (event ∷ events) (b ∷ left)
  call_history event (Ok reply) end ends = answered_history event reply ends
  call_history event (Err NoMemory) end ends = elim ends [
    | inl exact ↦ unmoved event (refused_unchanged a event NoMemory b exact)
    | inr same ↦ unmoved event same
  ]
  call_history event (Err DeviceFault) end ends = elim ends [
    | inl exact ↦ unmoved event (refused_unchanged a event DeviceFault b exact)
    | inr out ↦ fault_history event end out.1
  ]
  call_history event (Err refusal) end ends = elim ends [
    | inl exact ↦ unmoved event (refused_unchanged a event refusal b exact)
    | inr out ↦ absurd out
  ]

pub run_history : (a : Archive) (events : List Event) (outcomes : List (Result Reply Refusal)) (left : List Archive) → IsConsistent a → a.doubt ≡ None → Leave a events outcomes left → (steps : List (List BookStep)) × IsHistory a events left steps
run_history a [] [] [] consistent sure run = ([], record { made = tt; accepted = tt; last = refl; prefix = λ x stood. first_stands a [] [] [] x sure stood })
run_history a [] [] (b ∷ left) consistent sure run = absurd run
run_history a [] (outcome ∷ outcomes) left consistent sure run = absurd run
run_history a (event ∷ events) [] left consistent sure run = absurd run
run_history a (event ∷ events) (outcome ∷ outcomes) [] consistent sure run = absurd run
run_history a (event ∷ events) (outcome ∷ outcomes) (b ∷ left) consistent sure (ends, run) =
    let next = (consistent_call a event outcome b consistent ends).consistent in
    call_history a b events left consistent sure (λ none. run_history b events outcomes left next none run) event outcome
    (λ u is. final_run b events outcomes left next (ap (λ (x : Archive). x.desk.is_broken) is) run) ends
