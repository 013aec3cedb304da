-- Several sessions settled one after another: what each wrote is known before the first of them.
use Rattle.std.proofs.Common.{◌≡◌, ◌≢◌, ◌+◌, ◌<◌, ◌≤◌, ◌⊎◌, inl, inr, ◌||◌, not, ℕ, ℤ, Bool, true, false, cond, List, [], ◌∷◌, map, Option, Some, None, refl, sym, ap, subst, ◌∙◌, true≢false, nat_lt, nat_le, arith}
use Rattle.std.proofs.lemmas.Bool.Decides.{Decides-int_eq, nat_tests}
use Rattle.std.proofs.lemmas.List.Sums.{sum_by-cons}
use Rattle.std.specs.Prelude.{count_by, is_some}
use Rattle.std.specs.List.{list_any}
use Rattle.std.specs.Ordering.{int_eq}
use Rattle.archive_model.specs.declared.registration.Registration.{Registration}
use Rattle.archive_model.specs.declared.registration.Change.TheVariants as changes
use Rattle.archive_model.specs.Keyed.{Each, change, find}
use Rattle.archive_model.specs.Register.{changed_by}
use Rattle.archive_model.proofs.RegisterLemmas.{id_kept}
use Rattle.archive_model.proofs.StateLemmas.{each_found}
use Rattle.archive_model.proofs.WellLemmas.{both}
use Rattle.control_core.specs.declared.callers.RecorderSession.{RecorderSession}
use Rattle.control_core.specs.declared.callers.Written.{Written}
use Rattle.control_core.specs.declared.turns.Settling.{Settling}
use Rattle.control_core.specs.declared.turns.Settling.TheVariants as settling
use Rattle.control_core.specs.Callers.{session_number, with_written, written_to}
use Rattle.control_core.specs.Desk.{DeskState, has_room_for}
use Rattle.control_core.specs.Changes.{position_of, positions_each, recorded_of, sessions_each, settled, settled_by, settled_each}
use Rattle.control_core.specs.Turns.{are_once, has_room_for_each, has_written, session_in, settling_by, settling_of, wrote_any}
use Rattle.control_core.specs.Seats.{AreApart}
use Rattle.control_core.specs.Exact.{Archive, settled_archives, settled_by_number, settling_in}
use Rattle.control_core.proofs.DecidedLemmas.{found_number}
use Rattle.control_core.proofs.DeskLemmas.{apart_written, not_same}
use Rattle.control_core.proofs.FoundLemmas.{found_other}

-- ---- numbers that stand once

abbrev pub AreOther : ℤ → List ℤ → Type 0
AreOther n ns = Each (λ m. int_eq m n ≡ false) ns

other_way : (n m : ℤ) → int_eq n m ≡ false → int_eq m n ≡ false
other_way n m other = not_same m n (λ same. true≢false (sym ((Decides-int_eq n m).1 (sym same)) ∙ other))

pub others : (n : ℤ) (ns : List ℤ) → not (list_any (int_eq n) ns) ≡ true → AreOther n ns
others n [] none = tt
others n (m ∷ ns) none = by (int_eq n m) refl none (others n ns)
  where
    by : (b : Bool) → int_eq n m ≡ b → not (b || list_any (int_eq n) ns) ≡ true → (not (list_any (int_eq n) ns) ≡ true → AreOther n ns) → (int_eq m n ≡ false) × AreOther n ns
    by true is none rest = absurd (true≢false (sym none))
    by false is none rest = (other_way n m is, rest none)

-- ---- one session after another

-- the session of another number is found as it was
find_beside : (n m : ℤ) (f : RecorderSession → RecorderSession) (ss : List RecorderSession) → ((s : RecorderSession) → (f s).number ≡ s.number) → int_eq m n ≡ false → find session_number m (change session_number n f ss) ≡ find session_number m ss
find_beside n m f [] kept other = refl
find_beside n m f (s ∷ ss) kept other = by (int_eq n s.number) refl (find_beside n m f ss kept other)
  where
    by : (b : Bool) → int_eq n s.number ≡ b → find session_number m (change session_number n f ss) ≡ find session_number m ss
        → find session_number m (cond b (f s ∷ ss) (s ∷ change session_number n f ss)) ≡ cond (int_eq m s.number) (Some s) (find session_number m ss)
    by true is rest =
        let same : n ≡ s.number = (Decides-int_eq n s.number).0 is in
        let no : int_eq m s.number ≡ false = subst (λ (z : ℤ). int_eq m z ≡ false) same other in
        let still : int_eq m (f s).number ≡ false = ap (int_eq m) (kept s) ∙ no in
        rw (still, no) refl
    by false is rest = ap (λ (o : Option RecorderSession). cond (int_eq m s.number) (Some s) o) rest

module _ (d : DeskState) (n : ℤ) where
  -- what the settling of a session makes of the desk, by what there is of it
  by_found : (P : DeskState → Type 0) → P d → ((s : RecorderSession) (w : Written) → session_in d n ≡ Some s → s.written ≡ Some w → P (settled_by s (Some w) d)) → P (settled (session_in d n) d)
  by_found P none some = by (session_in d n) refl
    where
      written : (s : RecorderSession) (w : Option Written) → session_in d n ≡ Some s → s.written ≡ w → P (settled_by s w d)
      written s None found has = none
      written s (Some w) found has = some s w found has

      by : (o : Option RecorderSession) → session_in d n ≡ o → P (settled o d)
      by None found = none
      by (Some s) found = written s s.written found refl

  pub session_beside : (m : ℤ) → int_eq m n ≡ false → session_in (settled (session_in d n) d) m ≡ session_in d m
  session_beside m other = by_found (λ x. session_in x m ≡ session_in d m) refl
      (λ s w found has. find_beside s.number m (with_written None) d.callers.sessions (λ t. refl) (subst (λ (z : ℤ). int_eq m z ≡ false) (sym (found_number n d.callers.sessions s found)) other))

  still_apart : AreApart d.callers.sessions → AreApart (settled (session_in d n) d).callers.sessions
  still_apart apart = by_found (λ x. AreApart x.callers.sessions) apart (λ s w found has. apart_written s.number None d.callers.sessions apart)

  pub same_limit : (settled (session_in d n) d).limit ≡ d.limit
  same_limit = by_found (λ x. x.limit ≡ d.limit) refl (λ s w found has. refl)

  pub same_broken : (settled (session_in d n) d).is_broken ≡ d.is_broken
  same_broken = by_found (λ x. x.is_broken ≡ d.is_broken) refl (λ s w found has. refl)

  -- one entry more, where the session wrote something
  pub counted_one : (settled (session_in d n) d).counted ≡ d.counted + cond (has_written (session_in d n)) 1 0
  counted_one = by (session_in d n)
    where
      written : (s : RecorderSession) (w : Option Written) → (settled_by s w d).counted ≡ d.counted + cond (is_some w) 1 0
      written s None = omega arith
      written s (Some w) = refl

      by : (o : Option RecorderSession) → (settled o d).counted ≡ d.counted + cond (has_written o) 1 0
      by None = omega arith
      by (Some s) = written s s.written

pub sessions_before : (d : DeskState) (ns : List ℤ) → are_once ns ≡ true → sessions_each ns d ≡ map (session_in d) ns
sessions_before d [] once = refl
sessions_before d (n ∷ ns) once =
    let parts : (not (list_any (int_eq n) ns) ≡ true) × (are_once ns ≡ true) = both once in
    ap (λ (xs : List (Option RecorderSession)). session_in d n ∷ xs) (sessions_before (settled (session_in d n) d) ns parts.1 ∙ same ns (others n ns parts.0))
  where
    same : (ms : List ℤ) → AreOther n ms → map (session_in (settled (session_in d n) d)) ms ≡ map (session_in d) ms
    same [] other = refl
    same (m ∷ ms) other = rw (session_beside d n m other.0, same ms other.1) refl

-- ---- positions

-- sessions of two numbers write two recordings
apart_found : (n m : ℤ) (ss : List RecorderSession) (s t : RecorderSession) → AreApart ss → int_eq m n ≡ false → find session_number n ss ≡ Some s → find session_number m ss ≡ Some t → t.recording ≢ s.recording
apart_found n m [] s t apart other found there = absurd cc
apart_found n m (x ∷ ss) s t apart other found there = by (int_eq n x.number) (int_eq m x.number) refl refl found there (apart_found n m ss s t apart.1 other)
  where
    by : (a b : Bool) → int_eq n x.number ≡ a → int_eq m x.number ≡ b → cond a (Some x) (find session_number n ss) ≡ Some s → cond b (Some x) (find session_number m ss) ≡ Some t
        → (find session_number n ss ≡ Some s → find session_number m ss ≡ Some t → t.recording ≢ s.recording) → t.recording ≢ s.recording
    by true true is this found there rest =
        let same : m ≡ n = (Decides-int_eq m x.number).0 this ∙ sym ((Decides-int_eq n x.number).0 is) in
        absurd (true≢false (sym ((Decides-int_eq m n).1 same) ∙ other))
    by true false is this found there rest =
        let same : x ≡ s = cc in
        subst (λ (y : RecorderSession). t.recording ≢ y.recording) same (each_found session_number (λ y. y.recording ≢ x.recording) m ss t apart.0 there)
    by false true is this found there rest =
        let same : x ≡ t = cc in
        let differs : s.recording ≢ x.recording = each_found session_number (λ y. y.recording ≢ x.recording) n ss s apart.0 found in
        subst (λ (y : RecorderSession). y.recording ≢ s.recording) same (λ e. differs (sym e))
    by false false is this found there rest = rest found there

position_beside : (d : DeskState) (n m : ℤ) → AreApart d.callers.sessions → int_eq m n ≡ false → position_of (settled (session_in d n) d) (session_in d m) ≡ position_of d (session_in d m)
position_beside d n m apart other = by (session_in d m) refl
  where
    by : (o : Option RecorderSession) → session_in d m ≡ o → position_of (settled (session_in d n) d) o ≡ position_of d o
    by None there = refl
    by (Some t) there =
        by_found d n (λ x. position_of x (Some t) ≡ position_of d (Some t)) refl
        (λ s w found has.
        let beside = found_other t.recording s.recording (changed_by (changes.Settle w.last)) d.register.recordings (id_kept (changes.Settle w.last)) (not_same t.recording s.recording (apart_found n m d.callers.sessions s t apart other found there)) in
        ap (λ (o : Option Registration). Some (written_to t.written (recorded_of o))) beside)

pub positions_before : (d : DeskState) (ns : List ℤ) → AreApart d.callers.sessions → are_once ns ≡ true → positions_each ns d ≡ map (λ n. position_of d (session_in d n)) ns
positions_before d [] apart once = refl
positions_before d (n ∷ ns) apart once =
    let parts : (not (list_any (int_eq n) ns) ≡ true) × (are_once ns ≡ true) = both once in
    let rest = positions_before (settled (session_in d n) d) ns (still_apart d n apart) parts.1 in
    ap (λ (xs : List (Option ℤ)). position_of d (session_in d n) ∷ xs) (rest ∙ same ns (others n ns parts.0))
  where
    same : (ms : List ℤ) → AreOther n ms → map (λ m. position_of (settled (session_in d n) d) (session_in (settled (session_in d n) d) m)) ms ≡ map (λ m. position_of d (session_in d m)) ms
    same [] other = refl
    same (m ∷ ms) other =
        let here : position_of (settled (session_in d n) d) (session_in (settled (session_in d n) d) m) ≡ position_of d (session_in d m) =
        ap (position_of (settled (session_in d n) d)) (session_beside d n m other.0) ∙ position_beside d n m apart other.0 in
        rw (here, same ms other.1) refl

-- ---- how many entries

-- one more is counted, or not
counts_first : (p : ℤ → Bool) (n : ℤ) (ns : List ℤ) → count_by p (n ∷ ns) ≡ cond (p n) 1 0 + count_by p ns
counts_first p n ns = sum_by-cons (λ m. cond (p m) 1 0) n ns

pub counted_each : (d : DeskState) (ns : List ℤ) → are_once ns ≡ true → (settled_each ns d).counted ≡ d.counted + count_by (λ n. has_written (session_in d n)) ns
counted_each d [] once = omega arith
counted_each d (n ∷ ns) once =
    let parts : (not (list_any (int_eq n) ns) ≡ true) × (are_once ns ≡ true) = both once in
    let rest = counted_each (settled (session_in d n) d) ns parts.1 in
    let one = counted_one d n in
    let beside = same ns (others n ns parts.0) in
    let first = counts_first (λ m. has_written (session_in d m)) n ns in
    omega (arith, one, rest, beside, first)
  where
    same : (ms : List ℤ) → AreOther n ms → count_by (λ m. has_written (session_in (settled (session_in d n) d) m)) ms ≡ count_by (λ m. has_written (session_in d m)) ms
    same [] other = refl
    same (m ∷ ms) other =
        let after : ℤ → Bool = λ k. has_written (session_in (settled (session_in d n) d) k) in
        let here : after m ≡ has_written (session_in d m) = ap has_written (session_beside d n m other.0) in
        counts_first after m ms ∙ ap (λ (b : Bool). cond b 1 0 + count_by after ms) here ∙ ap (λ (k : ℕ). cond (has_written (session_in d m)) 1 0 + k) (same ms other.1)
        ∙ sym (counts_first (λ k. has_written (session_in d k)) m ms)

-- the count never falls
pub counted_rises : (d : DeskState) (ns : List ℤ) → d.counted ≤ (settled_each ns d).counted
counted_rises d [] = omega arith
counted_rises d (n ∷ ns) = let one = counted_one d n in let rest = counted_rises (settled (session_in d n) d) ns in omega (arith, one, rest)

pub limit_stays : (d : DeskState) (ns : List ℤ) → (settled_each ns d).limit ≡ d.limit
limit_stays d [] = refl
limit_stays d (n ∷ ns) = limit_stays (settled (session_in d n) d) ns ∙ same_limit d n

-- none of them wrote anything, or there is room for each entry
abbrev pub HasRoomBehind : DeskState → List ℤ → Type 0
HasRoomBehind d ns = ((settled_each ns d).counted ≤ d.counted) ⊎ ((settled_each ns d).counted ≤ d.limit)

pub roomy : (d : DeskState) (ns : List ℤ) → has_room_for_each d ns ≡ true → HasRoomBehind d ns
roomy d ns room = by (wrote_any d ns) refl room
  where
    le : nat_le (settled_each ns d).counted d.limit ≡ true → (settled_each ns d).counted ≤ d.limit
    le is = grind (arith, nat_tests)

    none : nat_lt d.counted (settled_each ns d).counted ≡ false → (settled_each ns d).counted ≤ d.counted
    none is = grind (arith, nat_tests)

    by : (b : Bool) → wrote_any d ns ≡ b → (not b || nat_le (settled_each ns d).counted d.limit) ≡ true → ((settled_each ns d).counted ≤ d.counted) ⊎ ((settled_each ns d).counted ≤ d.limit)
    by true is room = inr (le room)
    by false is room = inl (none is)

-- where the first of them wrote something, there is room for its entry; and there is room for the others behind it
pub room_here : (d : DeskState) (n : ℤ) (ns : List ℤ) → HasRoomBehind d (n ∷ ns) → has_written (session_in d n) ≡ true → d.counted < d.limit
room_here d n ns room wrote =
    let one : (settled (session_in d n) d).counted ≡ d.counted + 1 = counted_one d n ∙ ap (λ (b : Bool). d.counted + cond b 1 0) wrote in
    let rises = counted_rises (settled (session_in d n) d) ns in
    elim room [ inl none ↦ absurd (omega (arith, one, rises, none)) | inr fits ↦ omega (arith, one, rises, fits) ]

pub room_behind : (d : DeskState) (n : ℤ) (ns : List ℤ) → HasRoomBehind d (n ∷ ns) → HasRoomBehind (settled (session_in d n) d) ns
room_behind d n ns room =
    let one = counted_one d n in
    let limit = same_limit d n in
    elim room [ inl none ↦ inl (omega (arith, one, none)) | inr fits ↦ inr (omega (arith, limit, fits)) ]

-- what is left of these sessions makes of a desk what all of them make of the first one
pub record LeavesAll (first : DeskState) (all : List ℤ) (d : DeskState) (left : List ℤ) : Type 0 where
  pub same : settled_each left d ≡ settled_each all first
  pub room : HasRoomBehind d left

pub leaves_first : (d : DeskState) (ns : List ℤ) → has_room_for_each d ns ≡ true → LeavesAll d ns d ns
leaves_first d ns room = record { same = refl; room = roomy d ns room }

pub leaves_next : (first d : DeskState) (all : List ℤ) (n : ℤ) (ns : List ℤ) → LeavesAll first all d (n ∷ ns) → LeavesAll first all (settled (session_in d n) d) ns
leaves_next first d all n ns leaves = record { same = leaves.same; room = room_behind d n ns leaves.room }

-- the room for as many entries as they make
pub room_for : (d : DeskState) (ns : List ℤ) → are_once ns ≡ true → has_room_for_each d ns ≡ has_room_for (count_by (λ n. has_written (session_in d n)) ns) d
room_for d ns once =
    let k = count_by (λ n. has_written (session_in d n)) ns in
    ap (λ (m : ℕ). not (nat_lt d.counted m) || nat_le m d.limit) (counted_each d ns once) ∙ by d.counted k d.limit
  where
    by : (c k l : ℕ) → (not (nat_lt c (c + k)) || nat_le (c + k) l) ≡ (not (nat_lt 0 k) || nat_le (c + k) l)
    by c k l = ap (λ (b : Bool). not b || nat_le (c + k) l) (more c k)
      where
        more : (c k : ℕ) → nat_lt c (c + k) ≡ nat_lt 0 k
        more c k = grind (arith, nat_tests)

-- ---- the archive

module _ (a : Archive) (n : ℤ) where
  pub one_desk : (settled_by_number a n (settling_in a n)).desk ≡ settled (session_in a.desk n) a.desk
  one_desk = by (session_in a.desk n) refl
    where
      written : (s : RecorderSession) (w : Option Written) → session_in a.desk n ≡ Some s → s.written ≡ w → (settled_by_number a n (settling_by a.desk s w)).desk ≡ settled_by s w a.desk
      written s None found has = refl
      written s (Some w) found has = ap (λ (o : Option RecorderSession). settled o a.desk) found ∙ ap (λ (o : Option Written). settled_by s o a.desk) has

      by : (o : Option RecorderSession) → session_in a.desk n ≡ o → (settled_by_number a n (settling_of a.desk o)).desk ≡ settled o a.desk
      by None found = refl
      by (Some s) found = written s s.written found refl

  pub one_doubt : (s : Settling) → (settled_by_number a n s).doubt ≡ a.doubt
  one_doubt (settling.Nothing position) = refl
  one_doubt (settling.Blocks id w) = refl

pub all_desk : (a : Archive) (ns : List ℤ) → (settled_archives ns a).desk ≡ settled_each ns a.desk
all_desk a [] = refl
all_desk a (n ∷ ns) = all_desk (settled_by_number a n (settling_in a n)) ns ∙ ap (settled_each ns) (one_desk a n)

pub all_doubt : (a : Archive) (ns : List ℤ) → (settled_archives ns a).doubt ≡ a.doubt
all_doubt a [] = refl
all_doubt a (n ∷ ns) = all_doubt (settled_by_number a n (settling_in a n)) ns ∙ one_doubt a n (settling_in a n)
