-- Recordings go on over a call: each that is there behind it was there before, or has a new id.
use Rattle.std.proofs.Common.{◌≡◌, ◌≢◌, ◌⊎◌, ◌∙◌, inl, inr, sym, ap, subst, refl, ℕ, ℤ, pos, negsuc, ◌+ℤ◌, ◌<◌, ◌≤◌, ◌<ℤ◌, ◌≤ℤ◌, ◌&&◌, Bool, true, false, cond, true≢false, List, [], ◌∷◌, ◌++◌, Option, Some, None, map, int_le, nat_lt, unsigned_abs, arith}
use Rattle.std.proofs.lemmas.Int.{ints}
use Rattle.std.proofs.lemmas.Bool.Decides.{nat_tests, Decides-int_eq}
use Rattle.std.specs.Prelude.{◌^◌, ◌==◌, IfSome, IsSomeAnd}
use Rattle.std.specs.Ordering.{int_eq}
use Rattle.engine_core.proofs.Words.{Allows, Append, Command, DeskState, Each, IsLaid, IsRequested, KeepsDesk, LiesBehind, RecorderSession, RegisterState, Registration, Restart, Written, base_of, both, change, desk_after, each_found, find, found_number, is_later_base, is_power, layout_of, registration_in, session_in, session_number, settled}
use Rattle.frame_core.specs.Segment.{segment_base}
use Rattle.frame_core.proofs.LimitsLemmas.{exponent_le}
use Rattle.archive_model.specs.declared.command.Command.TheVariants.{Start, Stop, Extend, Truncate, PurgeSegments, PurgeRecording}
use Rattle.archive_model.specs.declared.registration.Change.{Change}
use Rattle.archive_model.specs.declared.registration.Change.TheVariants as changes
use Rattle.archive_model.specs.Keyed.{Rise, without}
use Rattle.archive_model.specs.Register as register
use Rattle.archive_model.specs.Register.{changed, changed_by, id_of, registered, restarted, with_one, with_out}
use Rattle.archive_model.proofs.CopyLemmas.{rise_le}
use Rattle.archive_model.proofs.RegisterLemmas.{id_kept}
use Rattle.archive_model.proofs.WellLemmas.{base_is_term}
use Rattle.control_core.specs.Changes.{settled_by, settled_each}
use Rattle.control_core.proofs.AllowedLemmas.{purge_base}
use Rattle.control_core.specs.Callers.{with_written}
use Rattle.control_core.specs.Orderly.{WroteBehind}
use Rattle.control_core.specs.Seats.{AreApart}
use Rattle.control_core.proofs.DeskLemmas.{apart_written, not_same}
use Rattle.control_core.proofs.FoundLemmas.{each_both, each_weaker, found_other}
use Rattle.engine_core.proofs.calls.KnownLemmas.{laid_found, test_of, written_behind}
use Rattle.engine_core.proofs.files.StayLemmas.{later_bases}

-- A recording is recorded no less far than before, begins no earlier, and from there on each position lies where it lay.
pub record GoesOn (r s : Registration) : Type 0 where
  pub id : id_of s ≡ id_of r
  pub recorded : r.recorded ≤ℤ s.recorded
  pub start : unsigned_abs r.descriptor.start_position ≤ unsigned_abs s.descriptor.start_position
  pub bases : (q : ℕ) → unsigned_abs s.descriptor.start_position ≤ q → base_of (layout_of s.descriptor) q ≡ base_of (layout_of r.descriptor) q

-- each recording whose id was given before goes on, or is gone
pub record Follows (g h : RegisterState) : Type 0 where
  pub next : g.next ≤ℤ h.next
  pub each : (id : ℤ) (s : Registration) → id <ℤ g.next → registration_in h id ≡ Some s → (r : Registration) × (registration_in g id ≡ Some r) × GoesOn r s

-- ---- found in a list

-- what is found has no lower id than those of its list
found_above : (low next id : ℤ) (rs : List Registration) (r : Registration) → Rise id_of low rs next → find id_of id rs ≡ Some r → low ≤ℤ id
found_above low next id [] r rising found = absurd cc
found_above low next id (x ∷ xs) r rising found = by (int_eq id (id_of x)) refl found (λ is. found_above (id_of x +ℤ pos 1) next id xs r rising.1 is)
  where
    by : (b : Bool) → int_eq id (id_of x) ≡ b → cond b (Some x) (find id_of id xs) ≡ Some r → (find id_of id xs ≡ Some r → (id_of x +ℤ pos 1) ≤ℤ id) → low ≤ℤ id
    by true here is later = let same : id ≡ id_of x = (Decides-int_eq id (id_of x)).0 here in omega (arith, ints, same, rising.0)
    by false other is later = let above = later is in omega (arith, ints, above, rising.0)

-- and a lower one than the next
pub found_below : (low next id : ℤ) (rs : List Registration) (r : Registration) → Rise id_of low rs next → find id_of id rs ≡ Some r → id <ℤ next
found_below low next id [] r rising found = absurd cc
found_below low next id (x ∷ xs) r rising found = by (int_eq id (id_of x)) refl found (λ is. found_below (id_of x +ℤ pos 1) next id xs r rising.1 is)
  where
    by : (b : Bool) → int_eq id (id_of x) ≡ b → cond b (Some x) (find id_of id xs) ≡ Some r → (find id_of id xs ≡ Some r → id <ℤ next) → id <ℤ next
    by true here is later =
        let same : id ≡ id_of x = (Decides-int_eq id (id_of x)).0 here in
        let end = rise_le id_of (id_of x +ℤ pos 1) next xs rising.1 in omega (arith, ints, same, end)
    by false other is later = later is

not_equal : (m n : ℤ) → m ≢ n → int_eq m n ≡ false
not_equal m n other = by (int_eq m n) refl
  where
    by : (b : Bool) → int_eq m n ≡ b → b ≡ false
    by true is = absurd (other ((Decides-int_eq m n).0 is))
    by false is = refl

-- what is found where one more stands behind, which has another id
found_before : (id : ℤ) (rs : List Registration) (x s : Registration) → id ≢ id_of x → find id_of id (rs ++ x ∷ []) ≡ Some s → find id_of id rs ≡ Some s
found_before id [] x s other found =
    let no : None ≡ Some s = sym (ap (λ (b : Bool). cond b (Some x) None) (not_equal id (id_of x) other)) ∙ found in absurd cc
found_before id (y ∷ ys) x s other found = by (int_eq id (id_of y)) found (λ is. found_before id ys x s other is)
  where
    by : (b : Bool) → cond b (Some y) (find id_of id (ys ++ x ∷ [])) ≡ Some s → (find id_of id (ys ++ x ∷ []) ≡ Some s → find id_of id ys ≡ Some s) → cond b (Some y) (find id_of id ys) ≡ Some s
    by true is later = is
    by false is later = later is

-- what is found where one is gone
found_left : (low next id n : ℤ) (rs : List Registration) (s : Registration) → Rise id_of low rs next → find id_of id (without id_of n rs) ≡ Some s → find id_of id rs ≡ Some s
found_left low next id n [] s rising found = found
found_left low next id n (x ∷ xs) s rising found = by (int_eq n (id_of x)) found (λ is. found_left (id_of x +ℤ pos 1) next id n xs s rising.1 is)
  where
    behind : (c : Bool) → cond c (Some x) (find id_of id (without id_of n xs)) ≡ Some s → (find id_of id (without id_of n xs) ≡ Some s → find id_of id xs ≡ Some s) → cond c (Some x) (find id_of id xs) ≡ Some s
    behind true is later = is
    behind false is later = later is

    by : (b : Bool) → find id_of id (cond b xs (x ∷ without id_of n xs)) ≡ Some s → (find id_of id (without id_of n xs) ≡ Some s → find id_of id xs ≡ Some s) → find id_of id (x ∷ xs) ≡ Some s
    by true is later =
        let above = found_above (id_of x +ℤ pos 1) next id xs s rising.1 is in
        ap (λ (b : Bool). cond b (Some x) (find id_of id xs)) (not_equal id (id_of x) (λ same. omega (arith, ints, above, same))) ∙ is
    by false is later = behind (int_eq id (id_of x)) is later

-- what is found where one is changed: it was there, changed or not
abbrev WasThere : ℤ → ℤ → (Registration → Registration) → List Registration → Registration → Type 0
WasThere id n f rs s = (r : Registration) × (find id_of id rs ≡ Some r) × ((s ≡ r) ⊎ ((id ≡ n) × (s ≡ f r)))

found_changed : (id n : ℤ) (f : Registration → Registration) (rs : List Registration) (s : Registration) → ((r : Registration) → id_of (f r) ≡ id_of r) → find id_of id (change id_of n f rs) ≡ Some s → WasThere id n f rs s
found_changed id n f [] s keeps found = absurd cc
found_changed id n f (x ∷ xs) s keeps found = by (int_eq n (id_of x)) refl found (λ is. found_changed id n f xs s keeps is)
  where
    here : (c : Bool) → int_eq id (id_of x) ≡ c → int_eq n (id_of x) ≡ true → cond c (Some (f x)) (find id_of id xs) ≡ Some s → (r : Registration) × (cond c (Some x) (find id_of id xs) ≡ Some r) × ((s ≡ r) ⊎ ((id ≡ n) × (s ≡ f r)))
    here true this that is =
        let one : id ≡ id_of x = (Decides-int_eq id (id_of x)).0 this in
        let two : n ≡ id_of x = (Decides-int_eq n (id_of x)).0 that in
        (x, refl, inr (one ∙ sym two, cc))
    here false other that is = (s, is, inl refl)

    later : (c : Bool) → cond c (Some x) (find id_of id (change id_of n f xs)) ≡ Some s → (find id_of id (change id_of n f xs) ≡ Some s → WasThere id n f xs s) → (r : Registration) × (cond c (Some x) (find id_of id xs) ≡ Some r) × ((s ≡ r) ⊎ ((id ≡ n) × (s ≡ f r)))
    later true is rest = (x, refl, inl cc)
    later false is rest = rest is

    by : (b : Bool) → int_eq n (id_of x) ≡ b → find id_of id (cond b (f x ∷ xs) (x ∷ change id_of n f xs)) ≡ Some s → (find id_of id (change id_of n f xs) ≡ Some s → WasThere id n f xs s) → WasThere id n f (x ∷ xs) s
    by true that is rest =
        here (int_eq id (id_of x)) refl that (ap (λ (z : ℤ). cond (int_eq id z) (Some (f x)) (find id_of id xs)) (sym (keeps x)) ∙ is)
    by false other is rest = later (int_eq id (id_of x)) is rest

-- what is found where each is changed
found_mapped : (id : ℤ) (f : Registration → Registration) (rs : List Registration) (s : Registration) → ((r : Registration) → id_of (f r) ≡ id_of r) → find id_of id (map f rs) ≡ Some s → (r : Registration) × (find id_of id rs ≡ Some r) × (s ≡ f r)
found_mapped id f [] s keeps found = absurd cc
found_mapped id f (x ∷ xs) s keeps found = by (int_eq id (id_of x)) (ap (λ (z : ℤ). cond (int_eq id z) (Some (f x)) (find id_of id (map f xs))) (sym (keeps x)) ∙ found) (λ is. found_mapped id f xs s keeps is)
  where
    by : (c : Bool) → cond c (Some (f x)) (find id_of id (map f xs)) ≡ Some s → (find id_of id (map f xs) ≡ Some s → (r : Registration) × (find id_of id xs ≡ Some r) × (s ≡ f r)) → (r : Registration) × (cond c (Some x) (find id_of id xs) ≡ Some r) × (s ≡ f r)
    by true is later = (x, refl, cc)
    by false is later = later is

-- ---- what goes on

pub goes_same : (r : Registration) → GoesOn r r
goes_same r = record { id = refl; recorded = omega (arith, ints); start = omega arith; bases = λ q from. refl }

pub follows_same : (g : RegisterState) → Follows g g
follows_same g = record { next = omega (arith, ints); each = λ id s given found. (s, found, goes_same s) }

pub follows_equal : (g h : RegisterState) → h ≡ g → Follows g h
follows_equal g h same = subst (Follows g) (sym same) (follows_same g)

-- over one call and then another
goes_then : (r s t : Registration) → GoesOn r s → GoesOn s t → GoesOn r t
goes_then r s t one two =
    let low = one.recorded in let high = two.recorded in let first = one.start in let second = two.start in record {
      id = two.id ∙ one.id;
      recorded = omega (arith, ints, low, high);
      start = omega (arith, first, second);
      bases = λ q from. two.bases q from ∙ one.bases q (omega (arith, second, from));
    }

follows_then : (g h k : RegisterState) → Follows g h → Follows h k → Follows g k
follows_then g h k one two =
    let low = one.next in let high = two.next in record {
      next = omega (arith, ints, low, high);
      each = λ id t given found.
          let mid = two.each id t (omega (arith, ints, low, given)) found in
          let first = one.each id mid.0 given mid.1 in
          (first.0, first.1, goes_then first.0 mid.0 t first.2 mid.2);
    }

-- one recording more
follows_more : (g : RegisterState) (r : Registration) → id_of r ≡ g.next → Follows g (with_one r g)
follows_more g r is = record {
  next = omega (arith, ints);
  each = λ id s given found.
      (s, found_before id g.recordings r s (λ same. (let here : id ≡ g.next = same ∙ is in omega (arith, ints, here, given))) found, goes_same s);
}

-- one is changed
pub follows_changed : (g : RegisterState) (n : ℤ) (k : Change) → ((r : Registration) → registration_in g n ≡ Some r → GoesOn r (changed_by k r)) → Follows g (changed n k g)
follows_changed g n k goes = record {
  next = omega (arith, ints);
  each = λ id s given found.
      let was = found_changed id n (changed_by k) g.recordings s (id_kept k) found in (
        was.0,
        was.1,
        elim was.2 [
          | inl same ↦ subst (GoesOn was.0) (sym same) (goes_same was.0)
          | inr this ↦ subst (GoesOn was.0) (sym this.1) (goes was.0 (subst (λ (z : ℤ). registration_in g z ≡ Some was.0) this.0 was.1))
        ],
      );
}

-- one is gone
follows_less : (g : RegisterState) (n : ℤ) → Rise id_of (pos 0) g.recordings g.next → Follows g (with_out n g)
follows_less g n rising = record {
  next = omega (arith, ints);
  each = λ id s given found. (s, found_left (pos 0) g.next id n g.recordings s rising found, goes_same s);
}

-- ---- what becomes of a recording

stopped_on : (timestamp : ℤ) (r : Registration) → GoesOn r (changed_by (changes.Stop timestamp) r)
stopped_on timestamp r = record { id = refl; recorded = omega (arith, ints); start = omega arith; bases = λ q from. refl }

extended_on : (session_id : ℤ) (r : Registration) → GoesOn r (changed_by (changes.Extend session_id) r)
extended_on session_id r = record { id = refl; recorded = omega (arith, ints); start = omega arith; bases = λ q from. refl }

settled_on : (position : ℤ) (r : Registration) → r.recorded ≤ℤ position → GoesOn r (changed_by (changes.Settle position) r)
settled_on position r behind = record { id = refl; recorded = behind; start = omega arith; bases = λ q from. refl }

restarted_on : (r : Registration) (b : Bool) → GoesOn r (cond b (changed_by (changes.Stop (negsuc 0)) r) r)
restarted_on r true = stopped_on (negsuc 0) r
restarted_on r false = goes_same r

restarted_id : (r : Registration) (b : Bool) → id_of (cond b (changed_by (changes.Stop (negsuc 0)) r) r) ≡ id_of r
restarted_id r true = refl
restarted_id r false = refl

-- a purge begins at a base behind the start, from which on the bases stay
purged_on : (position : ℤ) (r : Registration) → IsLaid r → is_later_base position r ≡ true → GoesOn r (changed_by (changes.PurgeSegments position) r)
unfolding is_later_base base_of
purged_on (pos p) r laid base =
    let first : (nat_lt (unsigned_abs r.descriptor.start_position) p && int_le (pos p) r.recorded ≡ true) × (_ ≡ true) = both base in
    let second : (nat_lt (unsigned_abs r.descriptor.start_position) p ≡ true) × (_ ≡ true) = both first.0 in
    let same : (segment_base (unsigned_abs r.descriptor.start_position) (unsigned_abs r.descriptor.term_length) (unsigned_abs r.descriptor.segment_length) p == p) ≡ true = first.1 in
    let behind : unsigned_abs r.descriptor.start_position < p = grind (arith, nat_tests) in
    let at : segment_base (unsigned_abs r.descriptor.start_position) (unsigned_abs r.descriptor.term_length) (unsigned_abs r.descriptor.segment_length) p ≡ p = grind (arith, nat_tests) in
    let layout = laid.laid_out.layout in
    let t = is_power r.descriptor.term_length layout.term in
    let s = is_power r.descriptor.segment_length layout.segment in
    let powers : 2 ^ t.0 ≤ 2 ^ s.0 = (let z : pos (2 ^ t.0) ≤ℤ pos (2 ^ s.0) = rw (← t.3, ← s.3) layout.no_less in omega (arith, ints)) in
    let whole = base_is_term (unsigned_abs r.descriptor.start_position) p (unsigned_abs r.descriptor.term_length) (unsigned_abs r.descriptor.segment_length) t.0 s.0
    (ap unsigned_abs t.3) (ap unsigned_abs s.3) (exponent_le t.0 s.0 powers) behind at in
    record {
      id = refl;
      recorded = omega (arith, ints);
      start = omega (arith, behind);
      bases = λ q from. later_bases (unsigned_abs r.descriptor.start_position) (unsigned_abs r.descriptor.term_length) (unsigned_abs r.descriptor.segment_length) p q whole.0 behind whole.1 at from;
    }
purged_on (negsuc p) r laid base = absurd (true≢false (sym base))

-- ---- what a call makes of a register

-- a truncation alone takes frames back
abbrev pub is_truncation : Command → Bool
is_truncation (Truncate id position) = true
is_truncation _ = false

pub command_follows : (d : DeskState) (c : Command) → IsRequested c → Allows d c → KeepsDesk d.register d.callers → is_truncation c ≡ false → Follows d.register (desk_after d c).register
command_follows d (Start f) requested allowed keeps other = follows_more d.register (registered d.register.next f) refl
command_follows d (Append id blocks) requested allowed keeps other = absurd requested
command_follows d (Stop id timestamp) requested allowed keeps other = follows_changed d.register id (changes.Stop timestamp) (λ r found. stopped_on timestamp r)
command_follows d (Extend f) requested allowed keeps other = follows_changed d.register f.recording (changes.Extend f.session_id) (λ r found. extended_on f.session_id r)
command_follows d (Truncate id position) requested allowed keeps other = absurd (true≢false other)
command_follows d (PurgeSegments id position) requested allowed keeps other =
    follows_changed d.register id (changes.PurgeSegments position)
    (λ r found. purged_on position r (laid_found d id r keeps (sym found)) (test_of (registration_in d.register id) (is_later_base position) r found (purge_base d id position allowed)))
command_follows d (PurgeRecording id) requested allowed keeps other = follows_less d.register id keeps.seats.rising
command_follows d Restart requested allowed keeps other = record {
  next = omega (arith, ints);
  each = λ id s given found.
      let was = found_mapped id restarted d.register.recordings s (λ r. restarted_id r (register.is_active r)) found in
      (was.0, was.1, subst (GoesOn was.0) (sym was.2) (restarted_on was.0 (register.is_active was.0)));
}

-- no command takes an id back
pub next_kept : (d : DeskState) (c : Command) → IsRequested c → d.register.next ≤ℤ (desk_after d c).register.next
next_kept d (Start f) requested = omega (arith, ints)
next_kept d (Append id blocks) requested = absurd requested
next_kept d (Stop id timestamp) requested = omega (arith, ints)
next_kept d (Extend f) requested = omega (arith, ints)
next_kept d (Truncate id position) requested = omega (arith, ints)
next_kept d (PurgeSegments id position) requested = omega (arith, ints)
next_kept d (PurgeRecording id) requested = omega (arith, ints)
next_kept d Restart requested = omega (arith, ints)

-- what a session wrote lies behind what is recorded
pub settled_follows : (d : DeskState) (number : ℤ) (found : Option RecorderSession) → session_in d number ≡ found → KeepsDesk d.register d.callers → Follows d.register (settled found d).register
settled_follows d number None is keeps = follows_same d.register
settled_follows d number (Some s) is keeps = by s.written refl
  where
    by : (o : Option Written) → s.written ≡ o → Follows d.register (settled_by s o d).register
    by None none = follows_same d.register
    by (Some w) has =
        follows_changed d.register s.recording (changes.Settle w.last)
        (λ r there. (let lies = written_behind d number s r w keeps is there has in settled_on w.last r (omega (arith, ints, lies.behind, lies.forward))))

-- ---- several sessions, one after another

-- what a session wrote ends past what is recorded
abbrev EndsPast : RegisterState → RecorderSession → Type 0
EndsPast g s = (w : Written) (r : Registration) → s.written ≡ Some w → registration_in g s.recording ≡ Some r → r.recorded ≤ℤ w.last

ends_past : (g : RegisterState) (s : RecorderSession) → WroteBehind g s → EndsPast g s
ends_past g s behind w r has there = by s.written (registration_in g s.recording) has there behind
  where
    by : (o : Option Written) (p : Option Registration) → o ≡ Some w → p ≡ Some r → IfSome o (λ x. IsSomeAnd p (LiesBehind x)) → r.recorded ≤ℤ w.last
    by None p has there behind = absurd cc
    by (Some x) None has there behind = absurd behind
    by (Some x) (Some y) has there lies =
        let written : x ≡ w = cc in
        let known : y ≡ r = cc in
        let first = lies.behind in
        let last = lies.forward in
        let past : y.recorded ≤ℤ x.last = omega (arith, ints, first, last) in
        subst (λ (z : Registration). z.recorded ≤ℤ w.last) known (subst (λ (v : Written). y.recorded ≤ℤ v.last) written past)

-- of another recording it does so still
other_past : (g : RegisterState) (s y : RecorderSession) (k : Change) → y.recording ≢ s.recording → EndsPast g y → EndsPast (changed s.recording k g) y
other_past g s y k differs past w r has there = past w r has (sym (found_other y.recording s.recording (changed_by k) g.recordings (id_kept k) (not_same y.recording s.recording differs)) ∙ there)

-- once a session's blocks are recorded, what the others wrote does so still
past_on : (g : RegisterState) (s : RecorderSession) (k : Change) (ss : List RecorderSession) → AreApart ss → find session_number s.number ss ≡ Some s → Each (EndsPast g) ss → Each (EndsPast (changed s.recording k g)) (change session_number s.number (with_written None) ss)
past_on g s k [] apart found past = absurd cc
past_on g s k (x ∷ xs) (beside, apart) found (one, all) = by (int_eq s.number x.number) found (λ later. past_on g s k xs apart later all)
  where
    by : (b : Bool) → cond b (Some x) (find session_number s.number xs) ≡ Some s → (find session_number s.number xs ≡ Some s → Each (EndsPast (changed s.recording k g)) (change session_number s.number (with_written None) xs))
        → Each (EndsPast (changed s.recording k g)) (cond b (with_written None x ∷ xs) (x ∷ change session_number s.number (with_written None) xs))
    by true here rest =
        let same : x ≡ s = cc in (
          (λ w r has there. absurd cc),
          each_both (λ y. y.recording ≢ x.recording) (EndsPast g) (EndsPast (changed s.recording k g)) xs (λ y differs past. other_past g s y k (subst (λ (z : RecorderSession). y.recording ≢ z.recording) same differs) past) beside all,
        )
    by false later rest = (other_past g s x k (λ same. each_found session_number (λ y. y.recording ≢ x.recording) s.number xs s beside later (sym same)) one, rest later)

each_follows : (d : DeskState) (numbers : List ℤ) → AreApart d.callers.sessions → Each (EndsPast d.register) d.callers.sessions → Follows d.register (settled_each numbers d).register
each_follows d [] apart past = follows_same d.register
each_follows d (n ∷ ns) apart past = by (session_in d n) refl (λ e. each_follows e ns)
  where
    wrote : (s : RecorderSession) (o : Option Written) → session_in d n ≡ Some s → s.written ≡ o → ((e : DeskState) → AreApart e.callers.sessions → Each (EndsPast e.register) e.callers.sessions → Follows e.register (settled_each ns e).register)
        → Follows d.register (settled_each ns (settled_by s o d)).register
    wrote s None found has rest = rest d apart past
    wrote s (Some w) found has rest =
        let number : s.number ≡ n = found_number session_number n d.callers.sessions s found in
        let here : session_in d s.number ≡ Some s = subst (λ (m : ℤ). session_in d m ≡ Some s) (sym number) found in
        let mid : DeskState = settled_by s (Some w) d in
        follows_then d.register mid.register (settled_each ns mid).register
        (follows_changed d.register s.recording (changes.Settle w.last) (λ r there. settled_on w.last r (each_found session_number (EndsPast d.register) n d.callers.sessions s past found w r has there)))
        (rest mid (apart_written s.number None d.callers.sessions apart) (past_on d.register s (changes.Settle w.last) d.callers.sessions apart here past))

    by : (o : Option RecorderSession) → session_in d n ≡ o → ((e : DeskState) → AreApart e.callers.sessions → Each (EndsPast e.register) e.callers.sessions → Follows e.register (settled_each ns e).register)
        → Follows d.register (settled_each ns (settled o d)).register
    by None found rest = rest d apart past
    by (Some s) found rest = wrote s s.written found refl rest

-- what several sessions wrote lies so, too
pub settled_each_follows : (d : DeskState) (numbers : List ℤ) → KeepsDesk d.register d.callers → Follows d.register (settled_each numbers d).register
settled_each_follows d numbers keeps =
    each_follows d numbers keeps.seats.sessions.apart (each_weaker (WroteBehind d.register) (EndsPast d.register) d.callers.sessions (ends_past d.register) keeps.orderly.sessions)
