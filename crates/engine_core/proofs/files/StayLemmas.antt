-- What a command leaves of durable frames that records none.
use Rattle.std.proofs.Common.{◌≡◌, ◌∙◌, sym, ap, subst, refl, ℕ, ℤ, pos, negsuc, ◌+◌, ◌-◌, ◌*◌, ◌/◌, ◌%◌, ◌<◌, ◌≤◌, ◌+ℤ◌, ◌≤ℤ◌, ◌&&◌, Bool, true, false, cond, true≢false, List, [], ◌∷◌, filter, int_le, int_lt, nat_le, nat_lt, unsigned_abs, arith}
use Rattle.std.proofs.lemmas.Int.{ints}
use Rattle.std.proofs.lemmas.Bool.Decides.{nat_tests}
use Rattle.std.proofs.lemmas.Nat.{div-add-mod'}
use Rattle.std.proofs.Math.Nat.{mul-add-mod_self_right, mul-mod_left}
use Rattle.std.specs.Prelude.{◌==◌, ◌^◌}
use Rattle.engine_core.proofs.Words.{Accepts, Append, AreDurableBytes, AreDurableFrames, Command, Each, Enters, EntryLeads, Files, Frame, IsDurable, IsKept, IsRequested, IsWell, Layout, PolledFrame, Recording, Restart, Segment, after, aligned_length, base_of, both, covered, each_change, each_found, entry_of, first_of, id_of, is_active, is_later_base, is_power, last_of, layout_of, recorded_position, registration_of, stored}
use Rattle.frame_core.specs.Segment.{first_base, segment_base}
use Rattle.frame_core.proofs.LimitsLemmas.{exponent_le}
use Rattle.archive_model.specs.declared.command.Command.TheVariants.{Start, Stop, Extend, Truncate, PurgeSegments, PurgeRecording}
use Rattle.archive_model.specs.declared.command.StartFields.{StartFields}
use Rattle.archive_model.specs.Acceptance.{BookState}
use Rattle.archive_model.specs.Commands.{ends_by, fresh, purged, restarted, stopped, truncated}
use Rattle.archive_model.specs.Replay.{frames_in, placed}
use Rattle.archive_model.proofs.CutLemmas.{begun_all}
use Rattle.archive_model.proofs.RegisterLemmas.{each_map, each_push}
use Rattle.archive_model.proofs.StateLemmas.{base_of_purge, each_without, purge, well_after}
use Rattle.archive_model.proofs.WellLemmas.{base_is_term}
use Rattle.catalogue_entries.proofs.CallerLemmas.{entry_admitted, register_kept}

-- where frames end, written in another way
ends_at : (files : Files) (l : Layout) (fs : List Frame) (from to end : ℕ) → to ≡ end
    → AreDurableFrames files l from fs to → AreDurableFrames files l from fs end
ends_at files l fs from to end same stand = subst (AreDurableFrames files l from fs) same stand

-- behind a position no frame ends by it
none_ends : (p : ℤ) (at : ℕ) (fs : List Frame) → int_le (pos at) p ≡ false
    → filter (ends_by p) (placed (pos at) fs) ≡ []
none_ends p at [] past = refl
none_ends (negsuc n) at (f ∷ fs) past = none_ends (negsuc n) (at + aligned_length f) fs refl
none_ends (pos q) at (f ∷ fs) past =
    let later : nat_le (at + aligned_length f) q ≡ false = grind (arith, nat_tests) in
    rw later (none_ends (pos q) (at + aligned_length f) fs later)

-- a truncation leaves a front of the frames
front_stands : (files : Files) (l : Layout) (p : ℤ) (fs : List Frame) (at to : ℕ)
    → AreDurableFrames files l at fs to
    → AreDurableFrames files l at (frames_in (filter (ends_by p) (placed (pos at) fs))) (at + covered (frames_in (filter (ends_by p) (placed (pos at) fs))))
front_stands files l p [] at to stand = omega arith
front_stands files l p (f ∷ fs) at to stand = by (int_le (pos (at + aligned_length f)) p) refl (front_stands files l p fs (at + aligned_length f) to stand.1)
  where
    rest : List PolledFrame
    rest = filter (ends_by p) (placed (pos (at + aligned_length f)) fs)

    front : Bool → List PolledFrame
    front b = cond b (record { position = pos at; frame = f } ∷ rest) rest

    by : (b : Bool) → int_le (pos (at + aligned_length f)) p ≡ b → AreDurableFrames files l (at + aligned_length f) (frames_in rest) ((at + aligned_length f) + covered (frames_in rest))
        → AreDurableFrames files l at (frames_in (front b)) (at + covered (frames_in (front b)))
    by true ends later = (stand.0, ends_at files l (frames_in rest) (at + aligned_length f) _ _ (omega arith) later)
    by false ends later =
        let none : rest ≡ [] = none_ends p (at + aligned_length f) fs ends in
        rw none (omega arith)

-- what a purge leaves: a back of the frames, and where it begins
record Back (files : Files) (l : Layout) (at to : ℕ) (all back : List Frame) : Type 0 where
  from : ℕ
  sum : from + covered back ≡ at + covered all
  stand : AreDurableFrames files l from back to

back_stands : (files : Files) (l : Layout) (p : ℤ) (fs : List Frame) (at to : ℕ)
    → AreDurableFrames files l at fs to
    → Back files l at to fs (frames_in (filter (λ (f : PolledFrame). int_le p f.position) (placed (pos at) fs)))
back_stands files l p [] at to stand = record { from = at; sum = refl; stand = stand }
back_stands files l p (f ∷ fs) at to stand = by (int_le p (pos at)) refl (back_stands files l p fs (at + aligned_length f) to stand.1)
  where
    rest : List PolledFrame
    rest = filter (λ (f : PolledFrame). int_le p f.position) (placed (pos (at + aligned_length f)) fs)

    begun : (z : ℤ) → int_le z (pos at) ≡ true → int_lt (pos (at + aligned_length f)) z ≡ false
    begun (pos q) reached = grind (arith, nat_tests)
    begun (negsuc q) reached = refl

    by : (b : Bool) → int_le p (pos at) ≡ b
        → Back files l (at + aligned_length f) to fs (frames_in rest)
        → Back files l at to (f ∷ fs) (frames_in (cond b (record { position = pos at; frame = f } ∷ rest) rest))
    by true reached later =
        let all : frames_in rest ≡ fs = begun_all p (at + aligned_length f) fs (begun p reached) in
        record { from = at; sum = ap (λ (xs : List Frame). at + covered (f ∷ xs)) all; stand = subst (λ (xs : List Frame). AreDurableFrames files l at (f ∷ xs) to) (sym all) stand }
    by false reached later = record { from = later.from; sum = omega (arith, later.sum); stand = later.stand }

-- a recording that begins at the base of one of its segments has its later segments as before

-- what lies behind a multiple has the rest that it has of the multiple
same_rest : (s x y : ℕ) → x % s ≡ 0 → (x + y) % s ≡ y % s
same_rest s x y none =
    let whole : x ≡ x / s * s = omega (arith, div-add-mod' x s) in
    ap (λ (n : ℕ). (n + y) % s) whole ∙ mul-add-mod_self_right (x / s) s y

-- a base of a segment behind the start is the first base of what begins there, with the same bases behind it
pub later_bases : (start t s p q k : ℕ) → start < p → p ≡ k * t → segment_base start t s p ≡ p → p ≤ q
    → segment_base p t s q ≡ segment_base start t s q
later_bases start t s p q k behind whole base later =
    let term : p % t ≡ 0 = ap (λ (n : ℕ). n % t) whole ∙ mul-mod_left k t in
    let first : ℕ = first_base start t in
    let low : first ≤ p = omega (arith, behind) in
    let less : (p - first) % s ≤ p - first = omega (arith, div-add-mod' (p - first) s) in
    let none : (p - first) % s ≡ 0 = omega (arith, base, low, less) in
    let parts : q - first ≡ (p - first) + (q - p) = omega (arith, low, later) in
    let same : (q - first) % s ≡ (q - p) % s = ap (λ (n : ℕ). n % s) parts ∙ same_rest s (p - first) (q - p) none in
    let begins : first_base p t ≡ p = omega (arith, term) in
    ap (λ (n : ℕ). q - (q - n) % s) begins ∙ ap (λ (n : ℕ). q - n) (sym same)

-- what a purge's position is
pub record IsLater (r : Recording) (p : ℤ) : Type 0 where
  pub at : ℕ
  pub is : p ≡ pos at
  pub behind : unsigned_abs r.descriptor.start_position < at
  pub base : segment_base (unsigned_abs r.descriptor.start_position) (unsigned_abs r.descriptor.term_length) (unsigned_abs r.descriptor.segment_length) at ≡ at

pub is_later : (r : Recording) (p : ℤ) → is_later_base p (registration_of r) ≡ true → IsLater r p
unfolding is_later_base
is_later r (pos q) base =
    let first : (nat_lt (unsigned_abs r.descriptor.start_position) q && int_le (pos q) (recorded_position r) ≡ true) × (_ ≡ true) = both base in
    let second : (nat_lt (unsigned_abs r.descriptor.start_position) q ≡ true) × (_ ≡ true) = both first.0 in
    let same : (segment_base (unsigned_abs r.descriptor.start_position) (unsigned_abs r.descriptor.term_length) (unsigned_abs r.descriptor.segment_length) q == q) ≡ true = first.1 in
    record { at = q; is = refl; behind = grind (arith, nat_tests); base = grind (arith, nat_tests) }
is_later r (negsuc q) base = absurd (true≢false (sym base))

-- the bases of the recording's segments behind a purge
pub same_bases : (r : Recording) (p : ℤ) (q : ℕ) → IsKept r → (later : IsLater r p) → later.at ≤ q
    → base_of (layout_of (purged p r).descriptor) q ≡ base_of (layout_of r.descriptor) q
unfolding base_of
same_bases r p q kept later behind =
    let t = is_power r.descriptor.term_length kept.term in
    let s = is_power r.descriptor.segment_length kept.segment in
    let powers : 2 ^ t.0 ≤ 2 ^ s.0 = (let z : pos (2 ^ t.0) ≤ℤ pos (2 ^ s.0) = rw (← t.3, ← s.3) kept.no_less in omega (arith, ints)) in
    let whole = base_is_term (unsigned_abs r.descriptor.start_position) later.at (unsigned_abs r.descriptor.term_length) (unsigned_abs r.descriptor.segment_length) t.0 s.0
    (ap unsigned_abs t.3) (ap unsigned_abs s.3) (exponent_le t.0 s.0 powers) later.behind later.base in
    rw (ap unsigned_abs later.is)
    (later_bases (unsigned_abs r.descriptor.start_position) (unsigned_abs r.descriptor.term_length) (unsigned_abs r.descriptor.segment_length) later.at q whole.0 later.behind whole.1 later.base behind)

-- frames stand where each position has the same base
based : (files : Files) (old new : Layout) (fs : List Frame) (from to : ℕ)
    → new.recording ≡ old.recording → ((q : ℕ) → from ≤ q → base_of new q ≡ base_of old q)
    → AreDurableFrames files old from fs to → AreDurableFrames files new from fs to
based files old new [] from to recording same stand = stand
based files old new (f ∷ fs) from to recording same stand =
    let here : base_of new from ≡ base_of old from = same from (omega arith) in (
      subst (λ (b : ℕ). AreDurableBytes (files (Segment new.recording (pos b))) (from - b) (stored f)) (sym here)
          (subst (λ (id : ℤ). AreDurableBytes (files (Segment id (pos (base_of old from)))) (from - base_of old from) (stored f)) (sym recording) stand.0),
      based files old new fs (from + aligned_length f) to recording (λ q behind. same q (omega (arith, behind))) stand.1,
    )

-- what each command leaves of its recording's frames

truncated_stands : (files : Files) (r : Recording) (p : ℤ) → IsKept r → IsDurable files r
    → IsDurable files (truncated p r)
truncated_stands files r p kept stand = by r.descriptor.start_position kept.start stand
  where
    left : ℤ → List Frame
    left start = frames_in (filter (ends_by p) (placed start r.frames))

    by : (start : ℤ) → pos 0 ≤ℤ start → AreDurableFrames files (layout_of r.descriptor) (unsigned_abs start) r.frames (unsigned_abs (start +ℤ pos (covered r.frames)))
        → AreDurableFrames files (layout_of r.descriptor) (unsigned_abs start) (left start) (unsigned_abs (start +ℤ pos (covered (left start))))
    by (pos at) low stands = front_stands files (layout_of r.descriptor) p r.frames at (at + covered r.frames) stands
    by (negsuc at) low stands = absurd (omega (arith, ints, low))

purged_stands : (files : Files) (r : Recording) (p : ℤ) → IsKept r
    → is_later_base p (registration_of r) ≡ true → IsDurable files r → IsDurable files (purged p r)
purged_stands files r p kept base stand = based files (layout_of r.descriptor) (layout_of (purged p r).descriptor) (purged p r).frames (first_of (purged p r)) (last_of (purged p r)) refl
    (λ q behind. same_bases r p q kept later (omega (arith, behind, ap unsigned_abs later.is)))
    (by r.descriptor.start_position kept.start stand (purge r p kept base).ends)
  where
    later : IsLater r p
    later = is_later r p base

    left : ℤ → List Frame
    left start = frames_in (filter (λ (f : PolledFrame). int_le p f.position) (placed start r.frames))

    by : (start : ℤ) → pos 0 ≤ℤ start → AreDurableFrames files (layout_of r.descriptor) (unsigned_abs start) r.frames (unsigned_abs (start +ℤ pos (covered r.frames)))
        → p +ℤ pos (covered (left start)) ≡ start +ℤ pos (covered r.frames)
        → AreDurableFrames files (layout_of r.descriptor) (unsigned_abs p) (left start) (unsigned_abs (p +ℤ pos (covered (left start))))
    by (pos at) low stands ends =
        let back = back_stands files (layout_of r.descriptor) p r.frames at (at + covered r.frames) stands in
        let sum = back.sum in
        let from : back.from ≡ unsigned_abs p = omega (arith, ints, sum, ends, later.is, ap unsigned_abs later.is) in
        subst (λ (n : ℕ). AreDurableFrames files (layout_of r.descriptor) n (left (pos at)) (unsigned_abs (p +ℤ pos (covered (left (pos at)))))) from
        (subst (AreDurableFrames files (layout_of r.descriptor) back.from (left (pos at))) (ap unsigned_abs (sym ends)) back.stand)
    by (negsuc at) low stands ends = absurd (omega (arith, ints, low))

restarted_stands : (files : Files) (r : Recording) (b : Bool) → IsDurable files r
    → IsDurable files (cond b (stopped (negsuc 0) r) r)
restarted_stands files r true stand = stand
restarted_stands files r false stand = stand

fresh_stands : (files : Files) (id : ℤ) (f : StartFields) → IsDurable files (fresh id f)
fresh_stands files id f = ap unsigned_abs (by f.start_position)
  where
    by : (z : ℤ) → z ≡ z +ℤ pos 0
    by z = omega (arith, ints)

-- a command that records no frames leaves durable frames durable
pub frames_stay : (files : Files) (b : BookState) (c : Command) → IsWell b.state → Accepts b c → IsRequested c → Each (IsDurable files) b.state.recordings → Each (IsDurable files) (after b.state c).recordings
frames_stay files b (Start f) well accepted requested stand = each_push (IsDurable files) b.state.recordings (fresh b.state.next f) stand (fresh_stands files b.state.next f)
frames_stay files b (Append id blocks) well accepted requested stand = absurd requested
frames_stay files b (Stop id timestamp) well accepted requested stand = each_change id_of (IsDurable files) id _ b.state.recordings stand (λ r found stands. stands)
frames_stay files b (Extend f) well accepted requested stand = each_change id_of (IsDurable files) f.recording _ b.state.recordings stand (λ r found stands. stands)
frames_stay files b (Truncate id p) well accepted requested stand =
    each_change id_of (IsDurable files) id (truncated p) b.state.recordings stand
    (λ r found stands. truncated_stands files r p (each_found id_of IsKept id b.state.recordings r well.kept found) stands)
frames_stay files b (PurgeSegments id p) well accepted requested stand =
    each_change id_of (IsDurable files) id (purged p) b.state.recordings stand
    (λ r found stands. purged_stands files r p (each_found id_of IsKept id b.state.recordings r well.kept found) (base_of_purge b id p r accepted found) stands)
frames_stay files b (PurgeRecording id) well accepted requested stand = each_without id_of (IsDurable files) id b.state.recordings stand
frames_stay files b Restart well accepted requested stand = each_map (IsDurable files) restarted b.state.recordings (λ r stands. restarted_stands files r (is_active r) stands) stand

-- the entry of an accepted command may follow those of the state, and makes the register of the state after it
pub enters : (b : BookState) (c : Command) → IsWell b.state → Accepts b c
    → Enters b.state (after b.state c) (entry_of b.state c)
enters b c well accepted = record { admitted = entry_admitted b c well accepted; makes = register_kept b c well accepted; well = well_after b c well accepted }

-- so its entry leads from the state before it to the one after it
pub leads : (files : Files) (b : BookState) (c : Command) → IsWell b.state → Accepts b c → IsRequested c → Each (IsDurable files) b.state.recordings → EntryLeads files b.state (after b.state c) (entry_of b.state c)
leads files b c well accepted requested stand = record { enters = enters b c well accepted; frames = frames_stay files b c well accepted requested stand }
