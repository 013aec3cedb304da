-- Seats and their passes.
use Rattle.std.proofs.Common.{◌≤ℤ◌, replicate, rules, ◌≡◌, ◌≢◌, ◌+◌, ◌++◌, ◌<◌, ◌≤◌, ◌∙◌, ℕ, zero, suc, ℤ, pos, List, [], ◌∷◌, Option, Some, None, Result, Ok, Err, Bool, true, false, refl, sym, subst, ap, length, arith, eqb, eq-eqb}
use Rattle.std.specs.Prelude.{◌||◌, MatchResult, int_le, slice_get, slice_set, if◌then◌else◌}
use Rattle.std.specs.List.{zip}
use mathlib.Core.List.{reverse}
use mathlib.Core.Logic.{dite}
use native.Mathlib.Decide.{ℕ_discrete}
use Rattle.std.proofs.lemmas.List.{length-append, reverse-append}
use Rattle.std.proofs.lemmas.List.Elements.{All-replicate}
use Rattle.atomic_table.specs.Seated.{TableId}
use Rattle.position_board.specs.Positions.{IsAccepted, MayRefuse, Published, last_position, new_writers, with_position}
use Rattle.recorder_seats.specs.declared.bench.BenchSeat.{BenchSeat}
use Rattle.recorder_seats.specs.Bench.{AreOfBoard, AreUnraised, BenchView, changed_seat, raised_at, raised_each, reseated_at}
use Rattle.recorder_seats.specs.Seat.{raised_unless_below}
use Rattle.frame_core.specs.declared.refusal.Refusal.{Refusal}
use Rattle.frame_core.specs.declared.refusal.Refusal.TheVariants.{BadParameter, NoMemory}
use Rattle.call_history.specs.Passes.{AllOfTable, HasEach, has_number, new_pass, new_passes}
use Rattle.call_history.specs.Values.{PassView}
use Rattle.archive_lock.specs.declared.history.Made.{Made}
use Rattle.archive_lock.specs.History.{Member}
use Rattle.server_recorder.specs.Seats.{AreNewSeats, AreNewWriters, AreSeats, HasNumbersFrom, IsBench, IsNewWriter, IsSeat}

-- ---- the last of a list

pub one_longer : {A : Type 0} (all xs : List A) (x : A) → all ≡ xs ++ x ∷ [] → length all ≡ suc (length xs)
one_longer all xs x is = omega (arith, ap length is, length-append xs (x ∷ []))

-- what stands behind a list is told apart from it
snoc_same : {A : Type 0} (xs ys : List A) (x y : A) → xs ++ x ∷ [] ≡ ys ++ y ∷ [] → (xs ≡ ys) × (x ≡ y)
snoc_same [] [] x y is = (refl, cc)
snoc_same [] (z ∷ zs) x y is = absurd (omega (arith, ap length is, length-append zs (y ∷ [])))
snoc_same (w ∷ ws) [] x y is = absurd (omega (arith, ap length is, length-append ws (x ∷ [])))
snoc_same (w ∷ ws) (z ∷ zs) x y is =
    let first : w ≡ z = cc in
    let tail : ws ++ x ∷ [] ≡ zs ++ y ∷ [] = cc in
    let rest = snoc_same ws zs x y tail in
    let same : ws ≡ zs = rest.0 in
    (cc, rest.1)

-- ---- writers

pub writers_front : (board : TableId) (n : ℕ) (xs : List Published) (x : Published) → AreNewWriters board n (xs ++ x ∷ []) → AreNewWriters board n xs
writers_front board n [] x all = tt
writers_front board n (y ∷ ys) x all = (all.0, writers_front board (n + 1) ys x all.1)

writers_last : (board : TableId) (n : ℕ) (xs : List Published) (x : Published) → AreNewWriters board n (xs ++ x ∷ []) → IsNewWriter board (n + length xs) x
writers_last board n [] x all = let same : n ≡ n + 0 = omega arith in subst (λ k. IsNewWriter board k x) same all.0
writers_last board n (y ∷ ys) x all = let same : n + 1 + length ys ≡ n + suc (length ys) = omega arith in subst (λ k. IsNewWriter board k x) same (writers_last board (n + 1) ys x all.1)

pub writers_end : (board : TableId) (k : ℕ) (xs : List Published) (x : Published) → AreNewWriters board 0 (xs ++ x ∷ []) → length xs ≡ k → IsNewWriter board k x
writers_end board k xs x all is = let same : 0 + length xs ≡ k = omega (arith, is) in subst (λ m. IsNewWriter board m x) same (writers_last board 0 xs x all)

new_writers_are_new : (board : TableId) (slot : ℕ) (starts : List ℤ) → AreNewWriters board slot (new_writers board slot starts)
new_writers_are_new board slot [] = tt
new_writers_are_new board slot (start ∷ starts) = (record { table = refl; slot = refl; none = refl }, new_writers_are_new board (slot + 1) starts)

length_new : (board : TableId) (slot : ℕ) (starts : List ℤ) → length (new_writers board slot starts) ≡ length starts
length_new board slot [] = refl
length_new board slot (start ∷ starts) = ap (λ n. suc n) (length_new board (slot + 1) starts)

pub new_are_new : (board : TableId) (starts : List ℤ) (writers : List Published) → writers ≡ new_writers board 0 starts → AreNewWriters board 0 writers
new_are_new board starts writers is = subst (AreNewWriters board 0) (sym is) (new_writers_are_new board 0 starts)

pub count_new : (board : TableId) (slot : ℕ) (starts : List ℤ) (writers : List Published) → writers ≡ new_writers board slot starts → length writers ≡ length starts
count_new board slot starts writers is = ap length is ∙ length_new board slot starts

-- a board for the seats may be made
accepted : IsAccepted (replicate 64 (pos 0)) 0
accepted = record {
  some_slot = search rules;
  slots_fit = search rules;
  readers_fit = search rules;
  none_below_0 = All-replicate (λ start. pos 0 ≤ℤ start) 64 (pos 0) (search rules);
}

-- so it is refused for want of memory alone
pub refuses_memory : (refusal : Refusal) → MayRefuse (replicate 64 (pos 0)) 0 refusal → refusal ≡ NoMemory
refuses_memory BadParameter may = absurd (may accepted)
refuses_memory NoMemory may = refl
refuses_memory _ may = absurd may

-- ---- passes

abbrev made_passes : TableId → ℕ → List (PassView Made)
made_passes table n = new_passes table n

abbrev made_pass : TableId → ℕ → PassView Made
made_pass table n = new_pass table n

-- the last of new passes
pub passes_front : (table : TableId) (n k : ℕ) (all ps : List (PassView Made)) (p : PassView Made) → all ≡ made_passes table n → all ≡ ps ++ p ∷ [] → n ≡ suc k → ps ≡ made_passes table k
passes_front table n k all ps p is popped next =
    let made : ps ++ p ∷ [] ≡ made_passes table (suc k) = sym popped ∙ (is ∙ ap (made_passes table) next) in
    (snoc_same ps (made_passes table k) p (made_pass table k) made).0

pub passes_last : (table : TableId) (n k : ℕ) (all ps : List (PassView Made)) (p : PassView Made) → all ≡ made_passes table n → all ≡ ps ++ p ∷ [] → n ≡ suc k → p ≡ made_pass table k
passes_last table n k all ps p is popped next =
    let made : ps ++ p ∷ [] ≡ made_passes table (suc k) = sym popped ∙ (is ∙ ap (made_passes table) next) in
    (snoc_same ps (made_passes table k) p (made_pass table k) made).1

pub some_passes : (table : TableId) (n k : ℕ) (all : List (PassView Made)) → all ≡ made_passes table n → n ≡ suc k → 0 < length all
some_passes table n k all is next = omega (arith, one_longer all (made_passes table k) (made_pass table k) (is ∙ ap (made_passes table) next))

pub count_made : (table : TableId) (n : ℕ) (all : List (PassView Made)) → all ≡ made_passes table n → length all ≡ n
count_made table n all is = ap length is ∙ made n
  where
    made : (m : ℕ) → length (made_passes table m) ≡ m
    made zero = refl
    made (suc m) = length-append (made_passes table m) (made_pass table m ∷ []) ∙ omega (arith, made m)

pub all_push : (table : TableId) (ps : List (PassView Made)) (p : PassView Made) → AllOfTable table ps → p.table ≡ table → AllOfTable table (ps ++ p ∷ [])
all_push table [] p all of = (of, tt)
all_push table (q ∷ ps) p all of = (all.0, all_push table ps p all.1 of)

-- ---- seats

-- seats are made from the last one on
pub seats_push : (board : TableId) (k n : ℕ) (xs : List BenchSeat) (x : BenchSeat) → AreNewSeats board k (reverse xs) → k ≡ suc n → IsNewWriter board n x.writer → AreNewSeats board n (reverse (xs ++ x ∷ []))
seats_push board k n xs x all next holds =
    let here : k ≡ n + 1 = omega arith in
    subst (AreNewSeats board n) (sym (reverse-append xs (x ∷ []))) (holds, subst (λ m. AreNewSeats board m (reverse xs)) here all)

pub are_seats : (board : TableId) (n : ℕ) (seats : List BenchSeat) → AreNewSeats board n seats → AreSeats board n seats
are_seats board n [] all = tt
are_seats board n (seat ∷ seats) all = (record { writer = all.0.table; slot = all.0.slot }, are_seats board (n + 1) seats all.1)

pub are_unraised : (board : TableId) (n : ℕ) (seats : List BenchSeat) → AreNewSeats board n seats → AreUnraised seats
are_unraised board n [] all = tt
are_unraised board n (seat ∷ seats) all = (all.0.none, are_unraised board (n + 1) seats all.1)

pub are_of_board : (board : TableId) (n : ℕ) (seats : List BenchSeat) → AreSeats board n seats → AreOfBoard board seats
are_of_board board n [] all = tt
are_of_board board n (seat ∷ seats) all = (all.0.writer, are_of_board board (n + 1) seats all.1)

-- a seat that is changed stays the seat of its number
seats_set : (board : TableId) (change : BenchSeat → BenchSeat) → ((n : ℕ) (seat : BenchSeat) → IsSeat board n seat → IsSeat board n (change seat)) → (n : ℕ) (xs : List BenchSeat) (i : ℕ) (x : BenchSeat) → slice_get xs i ≡ Some x → AreSeats board n xs → AreSeats board n (slice_set xs i (change x))
seats_set board change keeps n [] i x gets all = tt
seats_set board change keeps n (y ∷ ys) zero x gets all = let is : y ≡ x = cc in (subst (λ (z : BenchSeat). IsSeat board n (change z)) is (keeps n y all.0), all.1)
seats_set board change keeps n (y ∷ ys) (suc i) x gets all = (all.0, seats_set board change keeps (n + 1) ys i x gets all.1)

seats_changed : (board : TableId) (change : BenchSeat → BenchSeat) → ((n : ℕ) (seat : BenchSeat) → IsSeat board n seat → IsSeat board n (change seat)) → (i : ℕ) (xs : List BenchSeat) → AreSeats board 0 xs → AreSeats board 0 (changed_seat (slice_get xs i) i change xs)
seats_changed board change keeps i xs all = by (slice_get xs i) refl
  where
    by : (o : Option BenchSeat) → slice_get xs i ≡ o → AreSeats board 0 (changed_seat o i change xs)
    by None is = all
    by (Some seat) is = seats_set board change keeps 0 xs i seat is all

-- so it is for another session
pub seats_reseated : (board : TableId) (i : ℕ) (session : ℤ) (xs : List BenchSeat) → AreSeats board 0 xs → AreSeats board 0 (reseated_at i session xs)
seats_reseated board i session xs all = seats_changed board (λ seat. record seat { session = session }) (λ n seat is. record { writer = is.writer; slot = is.slot }) i xs all

-- and once it was raised
raised_seat : (board : TableId) (position : ℤ) (n : ℕ) (seat : BenchSeat) → IsSeat board n seat → IsSeat board n (record seat { writer = raised_unless_below position seat.writer })
raised_seat board position n seat is = by (int_le (last_position seat.writer.positions) position)
  where
    by : (b : Bool) → IsSeat board n (record seat { writer = if b then with_position position seat.writer else seat.writer })
    by true = record { writer = is.writer; slot = is.slot }
    by false = record { writer = is.writer; slot = is.slot }

pub seats_raised : (board : TableId) (i : ℕ) (o : Option ℤ) (xs : List BenchSeat) → AreSeats board 0 xs → AreSeats board 0 (raised_at i o xs)
seats_raised board i None xs all = all
seats_raised board i (Some position) xs all = seats_changed board (λ seat. record seat { writer = raised_unless_below position seat.writer }) (raised_seat board position) i xs all

pub seats_raised_each : (board : TableId) (raisings : List (ℕ × Option ℤ)) (xs : List BenchSeat) → AreSeats board 0 xs → AreSeats board 0 (raised_each raisings xs)
seats_raised_each board [] xs all = all
seats_raised_each board (raising ∷ raisings) xs all = seats_raised_each board raisings (raised_at raising.0 raising.1 xs) (seats_raised board raising.0 raising.1 xs all)

-- ---- a bench

-- it stays the bench over a call
pub bench_called : (history board : TableId) (old new : BenchView) → IsBench history board old → new ≡ record old { pass = new.pass } → (new.pass.table ≡ old.pass.table) × (new.pass.number ≡ old.pass.number) → IsBench history board new
bench_called history board old new was same pass = record {
  table = pass.0 ∙ was.table;
  number = pass.1 ∙ was.number;
  seats = subst (AreSeats board 0) (sym (ap (λ (b : BenchView). b.seats) same)) was.seats;
}

-- with another session at a seat
pub bench_reseated : (history board : TableId) (old new : BenchView) (i : ℕ) (session : ℤ) → IsBench history board old → new ≡ record old { seats = reseated_at i session old.seats } → IsBench history board new
bench_reseated history board old new i session was is = record {
  table = ap (λ (b : BenchView). b.pass.table) is ∙ was.table;
  number = ap (λ (b : BenchView). b.pass.number) is ∙ was.number;
  seats = subst (AreSeats board 0) (sym (ap (λ (b : BenchView). b.seats) is)) (seats_reseated board i session old.seats was.seats);
}

-- over a look
pub bench_looked : (history board : TableId) (old new : BenchView) (seen : List Member) → IsBench history board old → new ≡ record old { pass = new.pass } → new.pass ≡ record old.pass { seen = seen } → IsBench history board new
bench_looked history board old new seen was same looked = bench_called history board old new was same (ap (λ (p : PassView Made). p.table) looked, ap (λ (p : PassView Made). p.number) looked)

-- over a settling of one session
pub bench_settled : (history board : TableId) (old new : BenchView) (seat : ℕ) (result : Result ℤ Refusal) → IsBench history board old → (new.pass.table ≡ old.pass.table) × (new.pass.number ≡ old.pass.number)
    → MatchResult result (λ position. new.seats ≡ raised_at seat (Some position) old.seats) (λ refusal. new.seats ≡ old.seats) → IsBench history board new
bench_settled history board old new seat (Ok position) was pass raised = record {
  table = pass.0 ∙ was.table;
  number = pass.1 ∙ was.number;
  seats = subst (AreSeats board 0) (sym raised) (seats_raised board seat (Some position) old.seats was.seats);
}
bench_settled history board old new seat (Err refusal) was pass raised = record {
  table = pass.0 ∙ was.table;
  number = pass.1 ∙ was.number;
  seats = subst (AreSeats board 0) (sym raised) was.seats;
}

-- and of several
pub bench_settled_all : (history board : TableId) (old new : BenchView) (seats : List ℕ) (result : Result (List (Option ℤ)) Refusal) → IsBench history board old → (new.pass.table ≡ old.pass.table) × (new.pass.number ≡ old.pass.number)
    → MatchResult result (λ positions. new.seats ≡ raised_each (zip seats positions) old.seats) (λ refusal. new.seats ≡ old.seats) → IsBench history board new
bench_settled_all history board old new seats (Ok positions) was pass raised = record {
  table = pass.0 ∙ was.table;
  number = pass.1 ∙ was.number;
  seats = subst (AreSeats board 0) (sym raised) (seats_raised_each board (zip seats positions) old.seats was.seats);
}
bench_settled_all history board old new seats (Err refusal) was pass raised = record {
  table = pass.0 ∙ was.table;
  number = pass.1 ∙ was.number;
  seats = subst (AreSeats board 0) (sym raised) was.seats;
}

-- ---- all passes

or_true : (b c : Bool) → c ≡ true → b || c ≡ true
or_true true c is = refl
or_true false c is = is

either : (b c d : Bool) → b || c ≡ true → (c ≡ true → d ≡ true) → b || d ≡ true
either true c d is more = refl
either false c d is more = more is

has_last : (n : ℕ) (ps : List (PassView Made)) (p : PassView Made) → p.number ≡ n → has_number n (ps ++ p ∷ []) ≡ true
has_last n [] p is = rw (eq-eqb p.number n is) refl
has_last n (q ∷ ps) p is = or_true (eqb q.number n) (has_number n (ps ++ p ∷ [])) (has_last n ps p is)

has_still : (n : ℕ) (ps : List (PassView Made)) (p : PassView Made) → has_number n ps ≡ true → has_number n (ps ++ p ∷ []) ≡ true
has_still n [] p has = absurd cc
has_still n (q ∷ ps) p has = either (eqb q.number n) (has_number n ps) (has_number n (ps ++ p ∷ [])) has (has_still n ps p)

pub has_push : (k j count : ℕ) (ps : List (PassView Made)) (p : PassView Made) → HasNumbersFrom k count ps → k ≡ suc j → p.number ≡ j → HasNumbersFrom j count (ps ++ p ∷ [])
has_push k j count ps p has next is = λ n from below. dite (ℕ_discrete n j)
    (λ (same : n ≡ j). has_last n ps p (is ∙ sym same))
    (λ (ne : n ≢ j). has_still n ps p (has n (omega arith) below))

pub has_none : (k count : ℕ) (ps : List (PassView Made)) → count ≤ k → HasNumbersFrom k count ps
has_none k count ps past = λ n from below. absurd (omega arith)

pub all_from : (k count : ℕ) (ps : List (PassView Made)) → HasNumbersFrom k count ps → k ≡ 0 → HasEach count ps
all_from k count ps has at = λ n below. has n (omega arith) below

-- the passes of clients and the first one are all
pub all_with_first : (table : TableId) (count : ℕ) (ps : List (PassView Made)) (p : PassView Made) → AllOfTable table ps → HasNumbersFrom 1 count ps → p.table ≡ table → p.number ≡ 0 → AllOfTable table (ps ++ p ∷ []) × HasEach count (ps ++ p ∷ [])
all_with_first table count ps p all has of number = (all_push table ps p all of, all_from 0 count (ps ++ p ∷ []) (has_push 1 0 count ps p has refl number) refl)
