-- What the writers of a bench raised stays settled among the calls of its pass.
use Rattle.std.proofs.Common.{◌≡◌, ◌++◌, ◌<◌, ◌∙◌, inl, inr, ℕ, zero, suc, ℤ, List, [], ◌∷◌, Option, Some, None, Result, Ok, Err, Bool, true, false, sym, refl, ap, subst, arith, length, take}
use Rattle.std.specs.Prelude.{◌⊎◌, Contains, IfErr, IfOk, IfSome, MatchOption, MatchResult, if◌then◌else◌, int_le, slice_get, slice_index_or, slice_set}
use Rattle.std.specs.List.{zip}
use Rattle.std.proofs.lemmas.List.{append-nil}
use Rattle.std.proofs.lemmas.List.Elements.{Contains-append_left, Contains-append_right}
use Rattle.frame_core.specs.declared.refusal.Refusal.{Refusal}
use Rattle.frame_core.specs.declared.refusal.Refusal.TheVariants.{NoMemory}
use Rattle.atomic_table.specs.Seated.{TableId}
use Rattle.disk_core.specs.Life.{Life}
use Rattle.archive_model.specs.declared.reply.Reply.{Reply}
use Rattle.archive_model.specs.declared.reply.Reply.TheVariants.{Settled, SettledAll}
use Rattle.archive_model.specs.Keyed.{Each}
use Rattle.control_core.specs.declared.event.Event.{Event}
use Rattle.control_core.specs.declared.event.Event.TheVariants.{Settle, SettleAll}
use Rattle.engine_core.specs.Engine.{EngineState}
use Rattle.call_history.specs.Values.{PassView}
use Rattle.position_board.specs.Positions.{Published, last_position, with_position}
use Rattle.archive_lock.specs.declared.history.Made.{Made}
use Rattle.archive_lock.specs.Durable.{AnswersSession}
use Rattle.archive_lock.specs.History.{EndsWithAnswer, IsNoted, Member}
use Rattle.archive_lock.specs.Several.{EndsWithAnswers}
use Rattle.recorder_seats.specs.declared.bench.BenchSeat.{BenchSeat}
use Rattle.recorder_seats.specs.Bench.{AllAreAmong, AreOfBoard, AreUnraised, IsSettledAmong, RaisedAreAmong, changed_seat, group_outcome, raised_at, raised_each, seat_session, sessions_at}
use Rattle.recorder_seats.specs.Seat.{raised_positions, raised_unless_below, settling_outcome}
use Rattle.recorder_seats.proofs.SeatLemmas.{each_of, noted_or, one_more}

-- ---- calls more

pub none_raised : (pass : PassView Made) (seats : List BenchSeat) → AreUnraised seats → AllAreAmong pass seats
none_raised pass seats none = each_of (λ (seat : BenchSeat). raised_positions seat.writer ≡ []) (λ (seat : BenchSeat). RaisedAreAmong pass seat.writer)
    (λ seat is. subst (Each (IsSettledAmong pass.own)) (sym is) tt) seats none

among_longer : (calls more : List Made) (position : ℤ) → IsSettledAmong calls position → IsSettledAmong (calls ++ more) position
among_longer calls more position is = record {
  call = is.call;
  among = Contains-append_left calls more is.call is.among;
  session = is.session;
  settles = is.settles;
}

-- what was raised stays settled where the pass gains calls
pub all_longer : (p q : PassView Made) (seats : List BenchSeat) (calls : List Made) → q.own ≡ p.own ++ calls → AllAreAmong p seats → AllAreAmong q seats
all_longer p q seats calls own all =
    each_of (λ (seat : BenchSeat). RaisedAreAmong p seat.writer) (λ (seat : BenchSeat). RaisedAreAmong q seat.writer)
    (λ seat raised. subst (λ (xs : List Made). Each (IsSettledAmong xs) (raised_positions seat.writer)) (sym own)
    (each_of (IsSettledAmong p.own) (IsSettledAmong (p.own ++ calls)) (among_longer p.own calls) (raised_positions seat.writer) raised)) seats all

-- over any call
pub all_over : {D : Type 0} (life : D → Life) (opening : EngineState) (p q : PassView Made) (seats : List BenchSeat) (event : Event) (outcome : Result Reply Refusal) → (IsNoted outcome → EndsWithAnswer life opening p event outcome q) → (outcome ≡ Err NoMemory → q ≡ p)
    → AllAreAmong p seats → AllAreAmong q seats
all_over life opening p q seats event outcome answers unnoted all = by (noted_or outcome)
  where
    by : IsNoted outcome ⊎ (outcome ≡ Err NoMemory) → AllAreAmong q seats
    by (inl noted) = let ends = answers noted in all_longer p q seats (ends.call ∷ []) ends.extends.gains.own all
    by (inr none) = subst (λ (x : PassView Made). AllAreAmong x seats) (sym (unnoted none)) all

-- over several calls
pub all_over_calls : {D : Type 0} (life : D → Life) (opening : EngineState) (p q : PassView Made) (seats : List BenchSeat) (events : List Event) (outcomes : List (Result Reply Refusal)) → EndsWithAnswers life opening p events outcomes q → AllAreAmong p seats → AllAreAmong q seats
all_over_calls life opening p q seats events outcomes ends all = by ends.calls refl
  where
    by : (calls : List Made) → ends.calls ≡ calls → AllAreAmong q seats
    by [] is = subst (λ (x : PassView Made). AllAreAmong x seats) (sym (ends.same is)) all
    by (call ∷ calls) is = all_longer p q seats ends.calls (ends.extends (λ none. absurd cc)).own all

-- and over a look at the history
pub all_looking : (p q : PassView Made) (seats : List BenchSeat) (seen : List Member) → q ≡ record p { seen = seen } → AllAreAmong p seats → AllAreAmong q seats
all_looking p q seats seen is all = all_longer p q seats [] (ap (λ (x : PassView Made). x.own) is ∙ sym (append-nil p.own)) all

-- ---- positions that are raised

each_get : {X : Type 0} (P : X → Type 0) (xs : List X) (n : ℕ) (x : X) → Each P xs → slice_get xs n ≡ Some x → P x
each_get P [] n x all gets = absurd cc
each_get P (y ∷ ys) zero x all gets = let is : y ≡ x = cc in subst P is all.0
each_get P (y ∷ ys) (suc n) x all gets = each_get P ys n x all.1 gets

each_set : {X : Type 0} (P : X → Type 0) (xs : List X) (n : ℕ) (x : X) → Each P xs → P x → Each P (slice_set xs n x)
each_set P [] n x all is = tt
each_set P (y ∷ ys) zero x all is = (is, all.1)
each_set P (y ∷ ys) (suc n) x all is = (all.0, each_set P ys n x all.1 is)

-- what each seat has, and one that was changed has too
each_changed : (P : BenchSeat → Type 0) (change : BenchSeat → BenchSeat) (n : ℕ) (seats : List BenchSeat) → ((seat : BenchSeat) → P seat → P (change seat)) → Each P seats → Each P (changed_seat (slice_get seats n) n change seats)
each_changed P change n seats keeps all = by (slice_get seats n) refl
  where
    by : (o : Option BenchSeat) → slice_get seats n ≡ o → Each P (changed_seat o n change seats)
    by None is = all
    by (Some seat) is = each_set P seats n (change seat) all (keeps seat (each_get P seats n seat all is))

-- what a writer has, it has once it was raised too
raised_keeps : (P : Published → Type 0) (position : ℤ) (writer : Published) → P writer → P (with_position position writer) → P (raised_unless_below position writer)
raised_keeps P position writer is raised = by (int_le (last_position writer.positions) position)
  where
    by : (b : Bool) → P (if b then with_position position writer else writer)
    by true = raised
    by false = is

-- a position that was answered to a settling of the pass may be raised
pub raised_among : (q : PassView Made) (n : ℕ) (o : Option ℤ) (seats : List BenchSeat) → IfSome o (IsSettledAmong q.own) → AllAreAmong q seats → AllAreAmong q (raised_at n o seats)
raised_among q n None seats is all = all
raised_among q n (Some position) seats is all =
    each_changed (λ (seat : BenchSeat). RaisedAreAmong q seat.writer) (λ seat. record seat { writer = raised_unless_below position seat.writer }) n seats
    (λ seat raised. raised_keeps (RaisedAreAmong q) position seat.writer raised (one_more (IsSettledAmong q.own) seat.writer.positions position is raised)) all

pub raised_each_among : (q : PassView Made) (raisings : List (ℕ × Option ℤ)) (seats : List BenchSeat) → Each (λ (raising : ℕ × Option ℤ). IfSome raising.1 (IsSettledAmong q.own)) raisings → AllAreAmong q seats → AllAreAmong q (raised_each raisings seats)
raised_each_among q [] seats each all = all
raised_each_among q (raising ∷ raisings) seats each all = raised_each_among q raisings (raised_at raising.0 raising.1 seats) each.1 (raised_among q raising.0 raising.1 seats each.0 all)

-- a writer stays its board's
pub board_raised : (board : TableId) (n : ℕ) (o : Option ℤ) (seats : List BenchSeat) → AreOfBoard board seats → AreOfBoard board (raised_at n o seats)
board_raised board n None seats all = all
board_raised board n (Some position) seats all =
    each_changed (λ (seat : BenchSeat). seat.writer.table ≡ board) (λ seat. record seat { writer = raised_unless_below position seat.writer }) n seats
    (λ seat is. raised_keeps (λ (w : Published). w.table ≡ board) position seat.writer is is) all

-- ---- settlings

-- a settling of one session that was answered by a position
settled_alone : {D : Type 0} (life : D → Life) (opening : EngineState) (p q : PassView Made) (session position : ℤ) (outcome : Result Reply Refusal) → Ok (Settled position) ≡ outcome
    → (IsNoted outcome → EndsWithAnswer life opening p (Settle session) outcome q) → IsSettledAmong q.own position
settled_alone life opening p q session position outcome is answers =
    let ends = answers (subst IsNoted is tt) in
    let own = ends.extends.gains.own in
    record {
      call = ends.call;
      among = subst (λ (xs : List Made). Contains xs ends.call) (sym own) (Contains-append_right p.own (ends.call ∷ []) ends.call (0, omega arith, refl));
      session = session;
      settles = inl (ends.asked, ends.answered ∙ sym is);
    }

pub alone_raised : {D : Type 0} (life : D → Life) (opening : EngineState) (p q : PassView Made) (n : ℕ) (session : ℤ) (seats news : List BenchSeat) (answer : Result ℤ Refusal) (outcome : Result Reply Refusal) → settling_outcome answer ≡ outcome
    → (IsNoted outcome → EndsWithAnswer life opening p (Settle session) outcome q) → (outcome ≡ Err NoMemory → q ≡ p) → AllAreAmong p seats → MatchResult answer (λ position. news ≡ raised_at n (Some position) seats) (λ refusal. news ≡ seats) → AllAreAmong q news
alone_raised life opening p q n session seats news (Ok position) outcome told answers unnoted all raised =
    subst (AllAreAmong q) (sym raised) (raised_among q n (Some position) seats (settled_alone life opening p q session position outcome told answers) (all_over life opening p q seats (Settle session) outcome answers unnoted all))
alone_raised life opening p q n session seats news (Err refusal) outcome told answers unnoted all raised = subst (AllAreAmong q) (sym raised) (all_over life opening p q seats (Settle session) outcome answers unnoted all)

length-sessions_at : (indices : List ℕ) (seats : List BenchSeat) → length (sessions_at indices seats) ≡ length indices
length-sessions_at [] seats = refl
length-sessions_at (n ∷ ns) seats = ap (λ k. suc k) (length-sessions_at ns seats)

-- each position stands beside its own index
each_answered : (indices : List ℕ) (sessions : List ℤ) (positions : List (Option ℤ)) (P : ℤ → Type 0) → length sessions ≡ length indices → ((session position : ℤ) → AnswersSession sessions positions session position → P position)
    → Each (λ (raising : ℕ × Option ℤ). IfSome raising.1 P) (zip indices positions)
each_answered [] sessions positions P same answers = tt
each_answered (i ∷ is) [] positions P same answers = absurd (omega (arith, same))
each_answered (i ∷ is) (n ∷ ns) [] P same answers = tt
each_answered (i ∷ is) (n ∷ ns) (o ∷ os) P same answers = (first o answers, each_answered is ns os P (omega (arith, same)) (λ session position a. answers session position (inr a)))
  where
    first : (x : Option ℤ) → ((session position : ℤ) → AnswersSession (n ∷ ns) (x ∷ os) session position → P position) → IfSome x P
    first None told = tt
    first (Some position) told = told n position (inl (refl, refl))

pub together_raised : {D : Type 0} (life : D → Life) (opening : EngineState) (p q : PassView Made) (indices : List ℕ) (seats news : List BenchSeat) (answer : Result (List (Option ℤ)) Refusal) (outcome : Result Reply Refusal) → group_outcome answer ≡ outcome
    → (IsNoted outcome → EndsWithAnswer life opening p (SettleAll (sessions_at indices seats)) outcome q) → (outcome ≡ Err NoMemory → q ≡ p) → AllAreAmong p seats → MatchResult answer (λ positions. news ≡ raised_each (zip indices positions) seats) (λ refusal. news ≡ seats)
    → AllAreAmong q news
together_raised life opening p q indices seats news (Err refusal) outcome told answers unnoted all raised = subst (AllAreAmong q) (sym raised) (all_over life opening p q seats (SettleAll (sessions_at indices seats)) outcome answers unnoted all)
together_raised life opening p q indices seats news (Ok positions) outcome told answers unnoted all raised =
    let ends = answers (subst IsNoted told tt) in
    let own = ends.extends.gains.own in
    let among : Contains q.own ends.call = subst (λ (xs : List Made). Contains xs ends.call) (sym own) (Contains-append_right p.own (ends.call ∷ []) ends.call (0, omega arith, refl)) in
    let sessions = sessions_at indices seats in
    subst (AllAreAmong q) (sym raised) (raised_each_among q (zip indices positions) seats
    (each_answered indices sessions positions (IsSettledAmong q.own) (length-sessions_at indices seats)
    (λ session position a. record {
      call = ends.call;
      among = among;
      session = session;
      settles = inr (sessions, positions, ends.asked, ends.answered ∙ sym told, a);
    }))
    (all_over life opening p q seats (SettleAll sessions) outcome answers unnoted all))

-- over several calls, whatever they were answered
pub all_over_result : {D V : Type 0} (life : D → Life) (opening : EngineState) (p q : PassView Made) (seats : List BenchSeat) (events : List Event) (items : V → List (Result Reply Refusal)) (result : Result V Refusal)
    → IfOk result (λ outcomes. EndsWithAnswers life opening p events (items outcomes) q) → IfErr result (λ refusal. (refusal ≡ NoMemory) × (q ≡ p)) → AllAreAmong p seats → AllAreAmong q seats
all_over_result life opening p q seats events items (Ok outcomes) answers refused all = all_over_calls life opening p q seats events (items outcomes) answers all
all_over_result life opening p q seats events items (Err refusal) answers refused all = subst (λ (x : PassView Made). AllAreAmong x seats) (sym refused.1) all

-- beside an empty list there are no pairs
pub no_pairs : {A B : Type 0} (xs : List A) (ys : List B) → (xs ≡ []) ⊎ (ys ≡ []) → zip xs ys ≡ []
no_pairs [] ys is = refl
no_pairs (x ∷ xs) [] is = refl
no_pairs (x ∷ xs) (y ∷ ys) is = by is
  where
    by : (x ∷ xs ≡ []) ⊎ (y ∷ ys ≡ []) → zip (x ∷ xs) (y ∷ ys) ≡ []
    by (inl gone) = absurd cc
    by (inr gone) = absurd cc

-- the session of one seat more
pub sessions_next : (indices : List ℕ) (seats : List BenchSeat) (i : ℕ) → i < length indices → sessions_at (take (suc i) indices) seats ≡ sessions_at (take i indices) seats ++ seat_session seats (slice_index_or indices i 0) ∷ []
sessions_next [] seats i below = absurd (omega (arith, below))
sessions_next (n ∷ ns) seats zero below = refl
sessions_next (n ∷ ns) seats (suc i) below = ap (λ (sessions : List ℤ). seat_session seats n ∷ sessions) (sessions_next ns seats i (omega (arith, below)))

abbrev the_error : Refusal → Result Reply Refusal
the_error refusal = Err refusal

-- where the archive stands comes with what the caller is handed
pub standing_alone : {S : Type 0} (standing : Option S) (answer : Result ℤ Refusal) (outcome : Result Reply Refusal) (Leads : S → Type 0) → settling_outcome answer ≡ outcome → MatchOption standing (outcome ≡ Err NoMemory) (λ s. IsNoted outcome × Leads s)
    → MatchOption standing (answer ≡ Err NoMemory) (λ s. IsNoted (settling_outcome answer) × Leads s)
standing_alone (Some s) answer outcome Leads told comes = (subst IsNoted (sym told) comes.0, comes.1)
standing_alone None (Ok position) outcome Leads told comes = let no_error : Ok (Settled position) ≡ Err NoMemory = told ∙ comes in absurd cc
standing_alone None (Err refusal) outcome Leads told comes = let same : the_error refusal ≡ the_error NoMemory = told ∙ comes in cc

pub standing_together : {S : Type 0} (standing : Option S) (answer : Result (List (Option ℤ)) Refusal) (outcome : Result Reply Refusal) (Leads : S → Type 0) → group_outcome answer ≡ outcome → MatchOption standing (outcome ≡ Err NoMemory) (λ s. IsNoted outcome × Leads s)
    → MatchOption standing (answer ≡ Err NoMemory) (λ s. IsNoted (group_outcome answer) × Leads s)
standing_together (Some s) answer outcome Leads told comes = (subst IsNoted (sym told) comes.0, comes.1)
standing_together None (Ok positions) outcome Leads told comes = let no_error : Ok (SettledAll positions) ≡ Err NoMemory = told ∙ comes in absurd cc
standing_together None (Err refusal) outcome Leads told comes = let same : the_error refusal ≡ the_error NoMemory = told ∙ comes in cc
