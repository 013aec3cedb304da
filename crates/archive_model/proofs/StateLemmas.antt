-- Accepted commands keep states well-formed, and the register after them is the one of the state.
use Rattle.std.proofs.Common.{rules, ◌≡◌, ◌+ℤ◌, ◌≤ℤ◌, ◌*◌, ◌^◌, ℕ, ℤ, pos, negsuc, Bool, true, false, cond, List, [], ◌∷◌, ◌++◌, Option, Some, map, ◌&&◌, refl, sym, ap, subst, ◌∙◌, true≢false, int_le, unsigned_abs, arith}
use Rattle.std.specs.Prelude.{not, option_map, IsTrue, IsSomeAnd}
use Rattle.std.proofs.lemmas.Int.{ints}
use Rattle.std.specs.Ordering.{int_eq}
use Rattle.frame_core.specs.declared.frame.Frame.{Frame}
use Rattle.frame_core.specs.declared.block.Block.{Block}
use Rattle.frame_core.specs.declared.block.Publication.{Publication}
use Rattle.frame_core.specs.declared.geometry.Geometry.{Geometry}
use Rattle.frame_core.specs.Block.{AreEncodable, AreBlockOf, covered, end_position}
use Rattle.frame_core.specs.Limits.{is_mtu, is_term_length}
use Rattle.archive_model.specs.declared.command.Command.{Command}
use Rattle.archive_model.specs.declared.command.Command.TheVariants.{Start, Append, Stop, Extend, Truncate, PurgeSegments, PurgeRecording, Restart}
use Rattle.archive_model.specs.declared.command.StartFields.{StartFields}
use Rattle.archive_model.specs.declared.registration.Registration.{Registration}
use Rattle.archive_model.specs.declared.registration.Change.TheVariants as changes
use Rattle.archive_model.specs.Descriptor.{is_in_range, is_layout, is_negative, is_origin, is_start_position}
use Rattle.archive_model.specs.Keyed.{find, change, without, Each, Rise}
use Rattle.archive_model.specs.Register as register
use Rattle.archive_model.specs.Register.{RegisterState, is_later_base, changed_by, registered}
use Rattle.archive_model.specs.State.{Recording, State, empty, id_of, is_active, recorded_position, registration_of, register_of, geometry_of, publication_of}
use Rattle.archive_model.specs.Replay.{begins_frame}
use Rattle.archive_model.specs.Commands.{after, after_all, appended, ends_by, extended, frames_of, fresh, purged, recorded_in, register_after, restarted, stopped, truncated}
use Rattle.archive_model.specs.Acceptance.{BookState, AreBlocksFrom, Continue, book_after}
use Rattle.archive_model.specs.Accepting.{Accepts, Follow, begins_in}
use Rattle.archive_model.specs.Checks.{is_boundary_by, is_of}
use Rattle.archive_model.specs.Histories.{new_book}
use Rattle.archive_model.specs.WellFormed.{AreAccepted, IsKept, IsOfStream, IsWell}
use Rattle.archive_model.proofs.HistoriesLemmas.{covered-append, contiguous_append, blocks_contiguous}
use Rattle.archive_model.proofs.StreamLemmas.{aligned_behind, blocks_of_stream, each_append, each_left, frames_in_stream, start_aligned, start_in_stream}
use Rattle.archive_model.proofs.CutLemmas.{Leaves}
use Rattle.archive_model.proofs.WellLemmas.{both, is_purge, purge_leaves, truncation_leaves}
use Rattle.archive_model.proofs.RegisterLemmas.{each_map, each_push, rise_push}

-- values of a number that are changed, or gone

module _ {X : Type 0} (number : X → ℤ) (P : X → Type 0) where
  pub each_change : (n : ℤ) (f : X → X) (xs : List X) → Each P xs → ((x : X) → find number n xs ≡ Some x → P x → P (f x)) → Each P (change number n f xs)
  each_change n f [] all keeps = tt
  each_change n f (x ∷ xs) all keeps = by (int_eq n (number x)) refl (each_change n f xs all.1)
    where
      by : (b : Bool) → int_eq n (number x) ≡ b → (((y : X) → find number n xs ≡ Some y → P y → P (f y)) → Each P (change number n f xs)) → Each P (cond b (f x ∷ xs) (x ∷ change number n f xs))
      by true e later = (keeps x (rw e refl) all.0, all.1)
      by false e later = (all.0, later (λ y found. keeps y (rw e found)))

  pub each_without : (n : ℤ) (xs : List X) → Each P xs → Each P (without number n xs)
  each_without n [] all = tt
  each_without n (x ∷ xs) all = by (int_eq n (number x)) (each_without n xs all.1)
    where
      by : (b : Bool) → Each P (without number n xs) → Each P (cond b xs (x ∷ without number n xs))
      by true later = all.1
      by false later = (all.0, later)

  pub each_found : (n : ℤ) (xs : List X) (x : X) → Each P xs → find number n xs ≡ Some x → P x
  each_found n [] x all found = absurd cc
  each_found n (y ∷ ys) x all found = by (int_eq n (number y)) found (each_found n ys x all.1)
    where
      by : (b : Bool) → cond b (Some y) (find number n ys) ≡ Some x → (find number n ys ≡ Some x → P x) → P x
      by true is later = let same : y ≡ x = cc in subst P same all.0
      by false is later = later is

module _ {X : Type 0} (number : X → ℤ) where
  pub rise_change : (n low next : ℤ) (f : X → X) (xs : List X) → ((x : X) → number (f x) ≡ number x) → Rise number low xs next → Rise number low (change number n f xs) next
  rise_change n low next f [] same rising = rising
  rise_change n low next f (x ∷ xs) same rising = by (int_eq n (number x)) (rise_change n (number x +ℤ pos 1) next f xs same rising.1)
    where
      by : (b : Bool) → Rise number (number x +ℤ pos 1) (change number n f xs) next → Rise number low (cond b (f x ∷ xs) (x ∷ change number n f xs)) next
      by true later = rw (same x) rising
      by false later = (rising.0, later)

-- what the register has of the recordings
abbrev pub registrations : List Recording → List Registration
registrations rs = map registration_of rs

pub found_registration : (id : ℤ) (rs : List Recording) → find register.id_of id (registrations rs) ≡ option_map registration_of (find id_of id rs)
found_registration id [] = refl
found_registration id (r ∷ rs) = by (int_eq id (id_of r)) (found_registration id rs)
  where
    by : (b : Bool) → find register.id_of id (registrations rs) ≡ option_map registration_of (find id_of id rs)
        → cond b (Some (registration_of r)) (find register.id_of id (registrations rs)) ≡ option_map registration_of (cond b (Some r) (find id_of id rs))
    by true later = refl
    by false later = later

registers_change : (id : ℤ) (f : Recording → Recording) (g : Registration → Registration) (rs : List Recording) → ((r : Recording) → find id_of id rs ≡ Some r → registration_of (f r) ≡ g (registration_of r))
    → registrations (change id_of id f rs) ≡ change register.id_of id g (registrations rs)
registers_change id f g [] same = refl
registers_change id f g (r ∷ rs) same = by (int_eq id (id_of r)) refl (registers_change id f g rs)
  where
    by : (b : Bool) → int_eq id (id_of r) ≡ b → (((x : Recording) → find id_of id rs ≡ Some x → registration_of (f x) ≡ g (registration_of x)) → registrations (change id_of id f rs) ≡ change register.id_of id g (registrations rs))
        → registrations (cond b (f r ∷ rs) (r ∷ change id_of id f rs)) ≡ cond b (g (registration_of r) ∷ registrations rs) (registration_of r ∷ change register.id_of id g (registrations rs))
    by true e later = ap (λ x. x ∷ registrations rs) (same r (rw e refl))
    by false e later = ap (λ xs. registration_of r ∷ xs) (later (λ x found. same x (rw e found)))

registers_without : (id : ℤ) (rs : List Recording) → registrations (without id_of id rs) ≡ without register.id_of id (registrations rs)
registers_without id [] = refl
registers_without id (r ∷ rs) = by (int_eq id (id_of r)) (registers_without id rs)
  where
    by : (b : Bool) → registrations (without id_of id rs) ≡ without register.id_of id (registrations rs)
        → registrations (cond b rs (r ∷ without id_of id rs)) ≡ cond b (registrations rs) (registration_of r ∷ without register.id_of id (registrations rs))
    by true later = refl
    by false later = ap (λ xs. registration_of r ∷ xs) later

registers_push : (rs : List Recording) (r : Recording) → registrations (rs ++ r ∷ []) ≡ registrations rs ++ registration_of r ∷ []
registers_push [] r = refl
registers_push (x ∷ rs) r = ap (λ xs. registration_of x ∷ xs) (registers_push rs r)

restarted_registration : (r : Recording) (b : Bool) → registration_of (cond b (stopped (negsuc 0) r) r) ≡ cond b (changed_by (changes.Stop (negsuc 0)) (registration_of r)) (registration_of r)
restarted_registration r true = refl
restarted_registration r false = refl

registers_restarted : (rs : List Recording) → registrations (map restarted rs) ≡ map register.restarted (registrations rs)
registers_restarted [] = refl
registers_restarted (r ∷ rs) =
    ap (λ x. x ∷ registrations (map restarted rs)) (restarted_registration r (is_active r)) ∙ ap (λ xs. register.restarted (registration_of r) ∷ xs) (registers_restarted rs)

-- what the tests of an accepted command say of its recording

of_found : (id : ℤ) (rs : List Recording) (r : Recording) (test : Registration → Bool) → find id_of id rs ≡ Some r → is_of (find register.id_of id (registrations rs)) test ≡ test (registration_of r)
of_found id rs r test found = ap (λ (o : Option Registration). is_of o test) (found_registration id rs ∙ ap (option_map registration_of) found)

-- the frames of a cut recording

pub truncation : (r : Recording) (p : ℤ) → IsKept r → is_boundary_by (begins_frame p r) p (registration_of r) ≡ true
    → Leaves (geometry_of r.descriptor) r.descriptor.start_position p (truncated p r).frames
truncation r p kept cut = truncation_leaves (geometry_of r.descriptor) r.descriptor.start_position p r.frames kept.start kept.contiguous kept.encodable cut

later_base : (p : ℤ) (r : Registration) → is_later_base p r ≡ true → is_purge r.descriptor.start_position r.descriptor.term_length r.descriptor.segment_length r.recorded p ≡ true
unfolding is_later_base
later_base (pos q) r base = base
later_base (negsuc q) r base = base

pub purge : (r : Recording) (p : ℤ) → IsKept r → is_later_base p (registration_of r) ≡ true → Leaves (geometry_of r.descriptor) p (recorded_position r) (purged p r).frames
purge r p kept base =
    purge_leaves (geometry_of r.descriptor) r.descriptor.start_position p r.descriptor.segment_length r.frames kept.term kept.segment kept.no_less kept.start kept.contiguous kept.encodable
    (later_base p (registration_of r) base)

-- each command keeps its recording

le_true : (a b : ℤ) → int_le a b ≡ true → a ≤ℤ b
le_true a b e = search rules

layout_of : (f : StartFields) → is_layout f ≡ true
    → (is_term_length f.term_length ≡ true) × (is_term_length f.segment_length ≡ true) × (f.term_length ≤ℤ f.segment_length) × (is_mtu f.mtu ≡ true)
unfolding is_layout
layout_of f has =
    let first : ((is_term_length f.term_length && is_term_length f.segment_length) && int_le f.term_length f.segment_length ≡ true) × (is_mtu f.mtu ≡ true) = both has in
    let second : (is_term_length f.term_length && is_term_length f.segment_length ≡ true) × (int_le f.term_length f.segment_length ≡ true) = both first.0 in
    let third : (is_term_length f.term_length ≡ true) × (is_term_length f.segment_length ≡ true) = both second.0 in
    (third.0, third.1, le_true f.term_length f.segment_length second.1, first.1)

starts_low : (position term : ℤ) → is_start_position position term ≡ true → pos 0 ≤ℤ position
unfolding is_start_position
starts_low (pos p) term is = omega (arith, ints)
starts_low (negsuc p) term is = absurd (true≢false (sym is))

from_zero : (timestamp : ℤ) → not (is_negative timestamp) ≡ true → is_negative timestamp ≡ false
from_zero (pos n) is = refl
from_zero (negsuc n) is = absurd (true≢false (sym is))

pub kept_fresh : (id : ℤ) (f : StartFields) → is_in_range f ≡ true → IsKept (fresh id f)
kept_fresh id f range =
    let first : ((is_layout f && is_start_position f.start_position f.term_length) && not (is_negative f.timestamp) ≡ true) × (is_origin f.channel f.source_identity ≡ true) = both range in
    let second : (is_layout f && is_start_position f.start_position f.term_length ≡ true) × (not (is_negative f.timestamp) ≡ true) = both first.0 in
    let third : (is_layout f ≡ true) × (is_start_position f.start_position f.term_length ≡ true) = both second.0 in
    let lengths = layout_of f third.0 in
    record {
      start = starts_low f.start_position f.term_length third.1;
      in_stream = start_in_stream f.start_position f.term_length third.1;
      aligned = start_aligned f.start_position f.term_length third.1;
      term = lengths.0;
      segment = lengths.1;
      no_less = lengths.2;
      mtu = lengths.3;
      began = from_zero f.timestamp second.1;
      origin = first.1;
      of_stream = tt;
      encodable = tt;
      contiguous = tt;
      stopped = λ off. absurd (true≢false off);
    }

encodable_append : (fs gs : List Frame) → AreEncodable fs → AreEncodable gs → AreEncodable (fs ++ gs)
encodable_append [] gs these those = those
encodable_append (f ∷ fs) gs these those = (these.0, encodable_append fs gs these.1 those)

block_encodable : (g : Geometry) (publication : Publication) (fs : List Frame) (position : ℤ) → AreBlockOf g publication fs position → AreEncodable fs
block_encodable g publication [] position none = tt
block_encodable g publication (f ∷ fs) position (at, encodable, kind) = encodable

blocks_encodable : (g : Geometry) (publication : Publication) (position : ℤ) (blocks : List Block) → AreBlocksFrom g publication position blocks → AreEncodable (frames_of blocks)
blocks_encodable g publication position [] blocks = tt
blocks_encodable g publication position (b ∷ bs) blocks =
    encodable_append b.frames (frames_of bs) (block_encodable g publication b.frames b.position blocks.0) (blocks_encodable g publication (end_position b) bs blocks.2)

pub kept_appended : (r : Recording) (blocks : List Block) → IsKept r → Continue r blocks → is_active r ≡ true → IsKept (appended blocks r)
kept_appended r blocks kept next active = record {
  start = kept.start;
  in_stream = kept.in_stream;
  aligned = kept.aligned;
  term = kept.term;
  segment = kept.segment;
  no_less = kept.no_less;
  mtu = kept.mtu;
  began = kept.began;
  origin = kept.origin;
  of_stream = each_append (IsOfStream r.descriptor.stream_id) r.frames (frames_of blocks) kept.of_stream (blocks_of_stream (geometry_of r.descriptor) (publication_of r.descriptor) (recorded_position r) blocks next.1);
  encodable = encodable_append r.frames (frames_of blocks) kept.encodable (blocks_encodable (geometry_of r.descriptor) (publication_of r.descriptor) (recorded_position r) blocks next.1);
  contiguous =
      contiguous_append (geometry_of r.descriptor) r.descriptor.start_position (recorded_position r) r.frames (frames_of blocks) kept.contiguous refl
      (blocks_contiguous (geometry_of r.descriptor) (publication_of r.descriptor) (recorded_position r) blocks next.1);
  stopped = λ off. absurd (true≢false (sym active ∙ off));
}

pub kept_stopped : (timestamp : ℤ) (r : Recording) → IsKept r → IsKept (stopped timestamp r)
kept_stopped timestamp r kept = record {
  start = kept.start;
  in_stream = kept.in_stream;
  aligned = kept.aligned;
  term = kept.term;
  segment = kept.segment;
  no_less = kept.no_less;
  mtu = kept.mtu;
  began = kept.began;
  origin = kept.origin;
  of_stream = kept.of_stream;
  encodable = kept.encodable;
  contiguous = kept.contiguous;
  stopped = λ off. refl;
}

pub kept_extended : (session_id : ℤ) (r : Recording) → IsKept r → IsKept (extended session_id r)
kept_extended session_id r kept = record {
  start = kept.start;
  in_stream = kept.in_stream;
  aligned = kept.aligned;
  term = kept.term;
  segment = kept.segment;
  no_less = kept.no_less;
  mtu = kept.mtu;
  began = kept.began;
  origin = kept.origin;
  of_stream = kept.of_stream;
  encodable = kept.encodable;
  contiguous = kept.contiguous;
  stopped = λ off. absurd (true≢false off);
}

pub kept_truncated : (r : Recording) (p : ℤ) → IsKept r → is_boundary_by (begins_frame p r) p (registration_of r) ≡ true → IsKept (truncated p r)
kept_truncated r p kept cut =
    let left = truncation r p kept cut in
    record {
      start = kept.start;
      in_stream = kept.in_stream;
      aligned = kept.aligned;
      term = kept.term;
      segment = kept.segment;
      no_less = kept.no_less;
      mtu = kept.mtu;
      began = kept.began;
      origin = kept.origin;
      of_stream = each_left (IsOfStream r.descriptor.stream_id) (ends_by p) r.descriptor.start_position r.frames kept.of_stream;
      encodable = left.encodable;
      contiguous = left.contiguous;
      stopped = λ off. sym left.ends;
    }

-- a base behind the start is not negative
base_low : (p : ℤ) (r : Registration) → is_later_base p r ≡ true → pos 0 ≤ℤ p
unfolding is_later_base
base_low (pos q) r base = omega (arith, ints)
base_low (negsuc q) r base = absurd (true≢false (sym base))

-- it is at or before the recorded position, which is in the stream
base_in_stream : (p : ℤ) (r : Recording) → IsKept r → is_later_base p (registration_of r) ≡ true → p ≤ℤ pos (2 ^ 31 * unsigned_abs r.descriptor.term_length)
unfolding is_later_base
base_in_stream (pos q) r kept base =
    let recorded : pos q ≤ℤ recorded_position r = le_true (pos q) (recorded_position r) (both (both base).0).1 in
    let last : recorded_position r ≤ℤ pos (2 ^ 31 * unsigned_abs r.descriptor.term_length) = frames_in_stream (geometry_of r.descriptor) r.descriptor.start_position r.frames kept.contiguous kept.in_stream in
    omega (arith, ints, recorded, last)
base_in_stream (negsuc q) r kept base = absurd (true≢false (sym base))

pub kept_purged : (r : Recording) (p : ℤ) → IsKept r → is_later_base p (registration_of r) ≡ true → IsKept (purged p r)
kept_purged r p kept base =
    let left = purge r p kept base in
    record {
      start = base_low p (registration_of r) base;
      in_stream = base_in_stream p r kept base;
      aligned = aligned_behind p r.descriptor.start_position (purged p r).frames r.frames (base_low p (registration_of r) base) kept.aligned left.ends;
      term = kept.term;
      segment = kept.segment;
      no_less = kept.no_less;
      mtu = kept.mtu;
      began = kept.began;
      origin = kept.origin;
      of_stream = each_left (IsOfStream r.descriptor.stream_id) (λ f. int_le p f.position) r.descriptor.start_position r.frames kept.of_stream;
      encodable = left.encodable;
      contiguous = left.contiguous;
      stopped = λ off. kept.stopped off ∙ sym left.ends;
    }

pub kept_restarted : (r : Recording) (b : Bool) → IsKept r → IsKept (cond b (stopped (negsuc 0) r) r)
kept_restarted r true kept = kept_stopped (negsuc 0) r kept
kept_restarted r false kept = kept

pub restarted_id : (r : Recording) (b : Bool) → id_of (cond b (stopped (negsuc 0) r) r) ≡ id_of r
restarted_id r true = refl
restarted_id r false = refl

-- what is accepted of the recording that is found

follows_of : (b : BookState) (id : ℤ) (blocks : List Block) → Accepts b (Append id blocks) → Follow b.state id blocks × (is_of (find register.id_of id (registrations b.state.recordings)) register.is_active ≡ true)
follows_of b id blocks (true, says, pass) = (says, (both (both pass).1).0)
follows_of b id blocks (false, says, pass) =
    let second : (is_of (find register.id_of id (registrations b.state.recordings)) register.is_active ≡ true) × (false ≡ true) = both (both pass).1 in
    absurd (true≢false (sym second.1))

continues_at : (o : Option Recording) (r : Recording) (blocks : List Block) → o ≡ Some r → IsSomeAnd o (λ x. Continue x blocks) → Continue r blocks
continues_at o r blocks found fact = subst (λ (x : Option Recording). IsSomeAnd x (λ y. Continue y blocks)) found fact

cut_of : (b : BookState) (id p : ℤ) (r : Recording) → Accepts b (Truncate id p) → find id_of id b.state.recordings ≡ Some r → is_boundary_by (begins_frame p r) p (registration_of r) ≡ true
cut_of b id p r (said, says, pass) found =
    let holds = (both (both (both pass).1).1).0 in
    let begins : said ≡ begins_frame p r = says ∙ ap (λ (o : Option Recording). begins_in o p) found in
    ap (λ t. is_boundary_by t p (registration_of r)) (sym begins) ∙ sym (of_found id b.state.recordings r (is_boundary_by said p) found) ∙ holds

pub base_of_purge : (b : BookState) (id p : ℤ) (r : Recording) → Accepts b (PurgeSegments id p) → find id_of id b.state.recordings ≡ Some r → is_later_base p (registration_of r) ≡ true
base_of_purge b id p r (said, says, pass) found =
    sym (of_found id b.state.recordings r (is_later_base p) found) ∙ (both (both pass).1).0

pub rise_without : (id low next : ℤ) (rs : List Recording) → Rise id_of low rs next → Rise id_of low (without id_of id rs) next
rise_without id low next [] rising = rising
rise_without id low next (r ∷ rs) rising = by (int_eq id (id_of r)) (rise_without id (id_of r +ℤ pos 1) next rs rising.1)
  where
    lower : (from least : ℤ) (xs : List Recording) → least ≤ℤ from → Rise id_of from xs next → Rise id_of least xs next
    lower from least [] below r = omega (arith, ints)
    lower from least (x ∷ xs) below r = (omega (arith, ints, r.0), r.1)

    by : (b : Bool) → Rise id_of (id_of r +ℤ pos 1) (without id_of id rs) next → Rise id_of low (cond b rs (r ∷ without id_of id rs)) next
    by true later = lower (id_of r +ℤ pos 1) low rs (omega (arith, ints, rising.0)) rising.1
    by false later = (rising.0, later)

pub rise_restarted : (low next : ℤ) (rs : List Recording) → Rise id_of low rs next → Rise id_of low (map restarted rs) next
rise_restarted low next [] rising = rising
rise_restarted low next (r ∷ rs) rising = rw (restarted_id r (is_active r)) (rising.0, rise_restarted (id_of r +ℤ pos 1) next rs rising.1)

-- an accepted command keeps states well-formed
pub well_after : (b : BookState) (c : Command) → IsWell b.state → Accepts b c → IsWell (after b.state c)
well_after b (Start f) well (said, says, pass) = record {
  rising = rise_push id_of (pos 0) b.state.next b.state.recordings (fresh b.state.next f) well.rising refl;
  kept = each_push IsKept b.state.recordings (fresh b.state.next f) well.kept (kept_fresh b.state.next f (both pass).0);
}
well_after b (Append id blocks) well accepted =
    let follow = follows_of b id blocks accepted in
    record {
      rising = rise_change id_of id (pos 0) b.state.next (appended blocks) b.state.recordings (λ r. refl) well.rising;
      kept = each_change id_of IsKept id (appended blocks) b.state.recordings well.kept
          (λ r found kept. kept_appended r blocks kept (continues_at (find id_of id b.state.recordings) r blocks found follow.0)
          (sym (of_found id b.state.recordings r register.is_active found) ∙ follow.1));
    }
well_after b (Stop id timestamp) well accepted = record {
  rising = rise_change id_of id (pos 0) b.state.next (stopped timestamp) b.state.recordings (λ r. refl) well.rising;
  kept = each_change id_of IsKept id (stopped timestamp) b.state.recordings well.kept (λ r found kept. kept_stopped timestamp r kept);
}
well_after b (Extend f) well accepted = record {
  rising = rise_change id_of f.recording (pos 0) b.state.next (extended f.session_id) b.state.recordings (λ r. refl) well.rising;
  kept = each_change id_of IsKept f.recording (extended f.session_id) b.state.recordings well.kept (λ r found kept. kept_extended f.session_id r kept);
}
well_after b (Truncate id p) well accepted = record {
  rising = rise_change id_of id (pos 0) b.state.next (truncated p) b.state.recordings (λ r. refl) well.rising;
  kept = each_change id_of IsKept id (truncated p) b.state.recordings well.kept (λ r found kept. kept_truncated r p kept (cut_of b id p r accepted found));
}
well_after b (PurgeSegments id p) well accepted = record {
  rising = rise_change id_of id (pos 0) b.state.next (purged p) b.state.recordings (λ r. refl) well.rising;
  kept = each_change id_of IsKept id (purged p) b.state.recordings well.kept (λ r found kept. kept_purged r p kept (base_of_purge b id p r accepted found));
}
well_after b (PurgeRecording id) well accepted =
    record { rising = rise_without id (pos 0) b.state.next b.state.recordings well.rising; kept = each_without id_of IsKept id b.state.recordings well.kept }
well_after b Restart well accepted = record {
  rising = rise_restarted (pos 0) b.state.next b.state.recordings well.rising;
  kept = each_map IsKept restarted b.state.recordings (λ r kept. kept_restarted r (is_active r) kept) well.kept;
}

-- the register of the state after an accepted command is the register's

abbrev pub with_next : State → List Registration → RegisterState
with_next s rs = record { recordings = rs; next = s.next }

with_recordings : (s : State) (xs ys : List Registration) → xs ≡ ys → with_next s xs ≡ with_next s ys
with_recordings s xs ys same = ap (with_next s) same

appended_registration : (r : Recording) (blocks : List Block) (o : Option Recording) → o ≡ Some r → registration_of (appended blocks r) ≡ changed_by (changes.Settle (recorded_in o +ℤ pos (covered (frames_of blocks)))) (registration_of r)
appended_registration r blocks o found =
    let parts = covered-append r.frames (frames_of blocks) in
    let ends : recorded_position (appended blocks r) ≡ recorded_in o +ℤ pos (covered (frames_of blocks)) = rw found (omega (arith, ints)) in
    ap (λ (z : ℤ). record { descriptor = r.descriptor; recorded = z }) ends

pub register_follows : (b : BookState) (c : Command) → IsWell b.state → Accepts b c → register_of (after b.state c) ≡ register_after b.state c (register_of b.state)
register_follows b (Start f) well accepted =
    let empty : recorded_position (fresh b.state.next f) ≡ f.start_position = omega (arith, ints) in
    let one : registration_of (fresh b.state.next f) ≡ registered b.state.next f = ap (λ (z : ℤ). record { descriptor = register.begun b.state.next f; recorded = z }) empty in
    ap (λ (rs : List Registration). record { recordings = rs; next = b.state.next +ℤ pos 1 })
    (registers_push b.state.recordings (fresh b.state.next f) ∙ ap (λ (r : Registration). registrations b.state.recordings ++ r ∷ []) one)
register_follows b (Append id blocks) well accepted =
    let found = find id_of id b.state.recordings in
    with_recordings b.state _ _
    (registers_change id (appended blocks) (changed_by (changes.Settle (recorded_in found +ℤ pos (covered (frames_of blocks))))) b.state.recordings (λ r is. appended_registration r blocks found is))
register_follows b (Stop id timestamp) well accepted =
    with_recordings b.state _ _ (registers_change id (stopped timestamp) (changed_by (changes.Stop timestamp)) b.state.recordings (λ r is. refl))
register_follows b (Extend f) well accepted =
    with_recordings b.state _ _ (registers_change f.recording (extended f.session_id) (changed_by (changes.Extend f.session_id)) b.state.recordings (λ r is. refl))
register_follows b (Truncate id p) well accepted =
    with_recordings b.state _ _
    (registers_change id (truncated p) (changed_by (changes.Truncate p)) b.state.recordings
    (λ r is. ap (λ (z : ℤ). record { descriptor = (truncated p r).descriptor; recorded = z })
    (truncation r p (each_found id_of IsKept id b.state.recordings r well.kept is) (cut_of b id p r accepted is)).ends))
register_follows b (PurgeSegments id p) well accepted =
    with_recordings b.state _ _
    (registers_change id (purged p) (changed_by (changes.PurgeSegments p)) b.state.recordings
    (λ r is. ap (λ (z : ℤ). record { descriptor = (purged p r).descriptor; recorded = z })
    (purge r p (each_found id_of IsKept id b.state.recordings r well.kept is) (base_of_purge b id p r accepted is)).ends))
register_follows b (PurgeRecording id) well accepted = with_recordings b.state _ _ (registers_without id b.state.recordings)
register_follows b Restart well accepted = with_recordings b.state _ _ (registers_restarted b.state.recordings)

-- all states that accepted commands make are well-formed
well_from : (b : BookState) (cs : List Command) → IsWell b.state → AreAccepted b cs → IsWell (after_all b.state cs)
well_from b [] well accepted = well
well_from b (c ∷ cs) well accepted = well_from (book_after b c) cs (well_after b c well accepted.0) accepted.1

pub all_well : (limit : ℕ) (cs : List Command) → AreAccepted (new_book limit) cs → IsWell (after_all empty cs)
all_well limit cs accepted = well_from (new_book limit) cs (record { rising = omega (arith, ints); kept = tt }) accepted

pub truncated_ends : (r : Recording) (p : ℤ) → IsKept r → IsTrue (is_boundary_by (begins_frame p r) p (registration_of r)) → recorded_position (truncated p r) ≡ p
truncated_ends r p kept cut = (truncation r p kept cut).ends

pub purged_ends : (r : Recording) (p : ℤ) → IsKept r → IsTrue (is_later_base p (registration_of r)) → recorded_position (purged p r) ≡ recorded_position r
purged_ends r p kept base = (purge r p kept base).ends
