-- What commands leave of the recordings.
use Rattle.std.proofs.Common.{◌≡◌, ◌≤ℤ◌, ℤ, pos, negsuc, Bool, true, false, cond, List, [], ◌∷◌, ◌++◌, map, Option, Some, inl, inr, ◌⊎◌, refl, ap, sym, ◌∙◌, true≢false, arith}
use Rattle.std.proofs.lemmas.Int.{ints}
use Rattle.std.specs.Ordering.{int_eq}
use Rattle.frame_core.specs.declared.block.Block.{Block}
use Rattle.archive_model.specs.declared.command.Command.{Command}
use Rattle.archive_model.specs.declared.command.Command.TheVariants.{Start, Append, Stop, Extend, Truncate, PurgeSegments, PurgeRecording, Restart}
use Rattle.archive_model.specs.State.{Recording, State, empty, id_of, is_active, recorded_position}
use Rattle.archive_model.specs.Keyed.{find, change, without, Rise}
use Rattle.archive_model.specs.Commands.{after, after_all, appended, frames_of, fresh, stopped, extended, truncated, purged, restarted}
use Rattle.archive_model.specs.Acceptance.{BookState}
use Rattle.archive_model.specs.Accepting.{Accepts}
use Rattle.archive_model.specs.WellFormed.{IsKept, IsWell, cuts}
use Rattle.std.specs.Prelude.{IsSomeAnd}
use Rattle.std.proofs.lemmas.Bool.Decides.{Decides-int_eq}
use Rattle.archive_model.proofs.RegisterLemmas.{rise_push}
use Rattle.archive_model.proofs.StateLemmas.{base_of_purge, each_found, purged_ends, restarted_id, rise_change, rise_restarted, rise_without}
use Rattle.archive_model.proofs.HistoriesLemmas.{covered-append}

-- what is found stays found behind more recordings
pub find_push : (id : ℤ) (rs more : List Recording) (r : Recording) → find id_of id rs ≡ Some r → find id_of id (rs ++ more) ≡ Some r
find_push id [] more r found = absurd cc
find_push id (x ∷ rs) more r found = by (int_eq id (id_of x)) found (find_push id rs more r)
  where
    by : (b : Bool) → cond b (Some x) (find id_of id rs) ≡ Some r → (find id_of id rs ≡ Some r → find id_of id (rs ++ more) ≡ Some r) → cond b (Some x) (find id_of id (rs ++ more)) ≡ Some r
    by true h rest = h
    by false h rest = rest h

-- what is found is found as it was, or changed
pub find_changed : (id other : ℤ) (f : Recording → Recording) → ((r : Recording) → id_of (f r) ≡ id_of r) → (rs : List Recording) (r : Recording) → find id_of id rs ≡ Some r
    → ((find id_of other rs ≡ Some r) × (find id_of id (change id_of other f rs) ≡ Some (f r))) ⊎ (find id_of id (change id_of other f rs) ≡ Some r)
find_changed id other f same [] r found = absurd cc
find_changed id other f same (x ∷ rs) r found = by (int_eq other (id_of x)) (int_eq id (id_of x)) refl refl found (find_changed id other f same rs r)
  where
    Known : List Recording → List Recording → Type 0
    Known all new = ((find id_of other all ≡ Some r) × (find id_of id new ≡ Some (f r))) ⊎ (find id_of id new ≡ Some r)

    by : (b here : Bool) → int_eq other (id_of x) ≡ b → int_eq id (id_of x) ≡ here → cond here (Some x) (find id_of id rs) ≡ Some r → (find id_of id rs ≡ Some r → Known rs (change id_of other f rs))
        → Known (x ∷ rs) (cond b (f x ∷ rs) (x ∷ change id_of other f rs))
    by true true e this is later =
        let one : x ≡ r = cc in
        let first : find id_of id (f x ∷ rs) ≡ Some (f x) = rw (same x, this) refl in inl (rw e is, first ∙ ap (λ (y : Recording). Some (f y)) one)
    by true false e this is later = inr (rw (same x, this) is)
    by false true e this is later = inr (rw this is)
    by false false e this is later = rw (e, this) (later is)

-- the recording of another id is found as it was
pub find_other : (id other : ℤ) (f : Recording → Recording) → ((r : Recording) → id_of (f r) ≡ id_of r) → int_eq id other ≡ false → (rs : List Recording) → find id_of id (change id_of other f rs) ≡ find id_of id rs
find_other id other f same apart [] = refl
find_other id other f same apart (x ∷ rs) = by (int_eq other (id_of x)) (int_eq id (id_of x)) refl refl (find_other id other f same apart rs)
  where
    by : (b here : Bool) → int_eq other (id_of x) ≡ b → int_eq id (id_of x) ≡ here → find id_of id (change id_of other f rs) ≡ find id_of id rs
        → find id_of id (cond b (f x ∷ rs) (x ∷ change id_of other f rs)) ≡ cond here (Some x) (find id_of id rs)
    by true true e this later =
        let one : other ≡ id_of x = (Decides-int_eq other (id_of x)).0 e in
        let two : id ≡ id_of x = (Decides-int_eq id (id_of x)).0 this in
        absurd (true≢false (sym ((Decides-int_eq id other).1 (two ∙ sym one)) ∙ apart))
    by true false e this later = rw (same x, this) refl
    by false true e this later = rw this refl
    by false false e this later = rw this later

pub find_kept : (id other : ℤ) → int_eq id other ≡ false → (rs : List Recording) → find id_of id (without id_of other rs) ≡ find id_of id rs
find_kept id other apart [] = refl
find_kept id other apart (x ∷ rs) = by (int_eq other (id_of x)) (int_eq id (id_of x)) refl refl (find_kept id other apart rs)
  where
    by : (b here : Bool) → int_eq other (id_of x) ≡ b → int_eq id (id_of x) ≡ here → find id_of id (without id_of other rs) ≡ find id_of id rs
        → find id_of id (cond b rs (x ∷ without id_of other rs)) ≡ cond here (Some x) (find id_of id rs)
    by true true e this later =
        let one : other ≡ id_of x = (Decides-int_eq other (id_of x)).0 e in
        let two : id ≡ id_of x = (Decides-int_eq id (id_of x)).0 this in
        absurd (true≢false (sym ((Decides-int_eq id other).1 (two ∙ sym one)) ∙ apart))
    by true false e this later = refl
    by false true e this later = rw this refl
    by false false e this later = rw this later

-- no lower than it was
abbrev pub NoLower : Recording → Option Recording → Type 0
NoLower r found = IsSomeAnd found (λ new. recorded_position r ≤ℤ recorded_position new)

stays : (r : Recording) (o : Option Recording) → o ≡ Some r → NoLower r o
stays r o is = rw is (omega (arith, ints))

not_lower : (blocks : List Block) (r : Recording) → recorded_position r ≤ℤ recorded_position (appended blocks r)
not_lower blocks r = let parts = covered-append r.frames (frames_of blocks) in omega (arith, ints)

changed_stays : (id other : ℤ) (f : Recording → Recording) → ((x : Recording) → id_of (f x) ≡ id_of x) → (rs : List Recording) (r : Recording) → find id_of id rs ≡ Some r
    → (find id_of other rs ≡ Some r → recorded_position r ≤ℤ recorded_position (f r)) → NoLower r (find id_of id (change id_of other f rs))
changed_stays id other f same rs r found low =
    elim (find_changed id other f same rs r found) [ inl this ↦ rw this.1 (low this.0) | inr that ↦ stays r _ that ]

-- each recording that was active is found stopped
pub find_restarted : (id : ℤ) (rs : List Recording) (r : Recording) → find id_of id rs ≡ Some r → find id_of id (map restarted rs) ≡ Some (restarted r)
find_restarted id [] r found = absurd cc
find_restarted id (x ∷ rs) r found = by (int_eq id (id_of x)) refl found (find_restarted id rs r)
  where
    by : (b : Bool) → int_eq id (id_of x) ≡ b → cond b (Some x) (find id_of id rs) ≡ Some r → (find id_of id rs ≡ Some r → find id_of id (map restarted rs) ≡ Some (restarted r))
        → find id_of id (map restarted (x ∷ rs)) ≡ Some (restarted r)
    by true e is later = let one : x ≡ r = cc in rw (restarted_id x (is_active x), e) (ap (λ (y : Recording). Some (restarted y)) one)
    by false e is later = rw (restarted_id x (is_active x), e) (later is)

restart_low : (r : Recording) (b : Bool) → recorded_position r ≤ℤ recorded_position (cond b (stopped (negsuc 0) r) r)
restart_low r true = omega (arith, ints)
restart_low r false = omega (arith, ints)

-- what no command cuts or removes does not fall
pub never_falls : (b : BookState) (c : Command) → IsWell b.state → Accepts b c → (id : ℤ) (r : Recording) → cuts id c ≡ false → find id_of id b.state.recordings ≡ Some r
    → NoLower r (find id_of id (after b.state c).recordings)
never_falls b (Start f) well accepted id r whole found = stays r _ (find_push id b.state.recordings (fresh b.state.next f ∷ []) r found)
never_falls b (Append other blocks) well accepted id r whole found = changed_stays id other (appended blocks) (λ x. refl) b.state.recordings r found (λ this. not_lower blocks r)
never_falls b (Stop other timestamp) well accepted id r whole found = changed_stays id other (stopped timestamp) (λ x. refl) b.state.recordings r found (λ this. omega (arith, ints))
never_falls b (Extend f) well accepted id r whole found = changed_stays id f.recording (extended f.session_id) (λ x. refl) b.state.recordings r found (λ this. omega (arith, ints))
never_falls b (Truncate other p) well accepted id r whole found = stays r _ (find_other id other (truncated p) (λ x. refl) whole b.state.recordings ∙ found)
never_falls b (PurgeSegments other p) well accepted id r whole found =
    changed_stays id other (purged p) (λ x. refl) b.state.recordings r found
    (λ this. let same = purged_ends r p (each_found id_of IsKept other b.state.recordings r well.kept this) (base_of_purge b other p r accepted this) in omega (arith, ints))
never_falls b (PurgeRecording other) well accepted id r whole found = stays r _ (find_kept id other whole b.state.recordings ∙ found)
never_falls b Restart well accepted id r whole found = rw (find_restarted id b.state.recordings r found) (restart_low r (is_active r))

-- ids

rising_after : (s : State) (c : Command) → Rise id_of (pos 0) s.recordings s.next → Rise id_of (pos 0) (after s c).recordings (after s c).next
rising_after s (Start f) rising = rise_push id_of (pos 0) s.next s.recordings (fresh s.next f) rising refl
rising_after s (Append id blocks) rising = rise_change id_of id (pos 0) s.next (appended blocks) s.recordings (λ r. refl) rising
rising_after s (Stop id timestamp) rising = rise_change id_of id (pos 0) s.next (stopped timestamp) s.recordings (λ r. refl) rising
rising_after s (Extend f) rising = rise_change id_of f.recording (pos 0) s.next (extended f.session_id) s.recordings (λ r. refl) rising
rising_after s (Truncate id position) rising = rise_change id_of id (pos 0) s.next (truncated position) s.recordings (λ r. refl) rising
rising_after s (PurgeSegments id position) rising = rise_change id_of id (pos 0) s.next (purged position) s.recordings (λ r. refl) rising
rising_after s (PurgeRecording id) rising = rise_without id (pos 0) s.next s.recordings rising
rising_after s Restart rising = rise_restarted (pos 0) s.next s.recordings rising

rising_from : (s : State) (cs : List Command) → Rise id_of (pos 0) s.recordings s.next → Rise id_of (pos 0) (after_all s cs).recordings (after_all s cs).next
rising_from s [] rising = rising
rising_from s (c ∷ cs) rising = rising_from (after s c) cs (rising_after s c rising)

pub ids_rise : (cs : List Command) → Rise id_of (pos 0) (after_all empty cs).recordings (after_all empty cs).next
ids_rise cs = rising_from empty cs (omega (arith, ints))
