-- Recordings stay laid, whatever commands make of them.
use Rattle.std.proofs.Common.{rules, ◌≡◌, ◌∙◌, sym, ap, refl, ℕ, ℤ, pos, negsuc, ◌*◌, ◌/◌, ◌%◌, ◌^◌, ◌-◌, ◌<◌, ◌≤◌, ◌≤ℤ◌, ◌<ℤ◌, ◌&&◌, Bool, true, false, cond, true≢false, List, [], ◌∷◌, length, Option, Some, int_le, int_lt, nat_lt, unsigned_abs, arith}
use Rattle.std.proofs.lemmas.Int.{ints}
use Rattle.std.proofs.lemmas.Nat.{pow-add}
use Rattle.std.proofs.lemmas.Bool.Decides.{nat_tests}
use Rattle.std.specs.Char.{is_control}
use Rattle.std.specs.List.{list_all, list_any}
use Rattle.std.specs.Prelude.{◌==◌, not, chars, nat_le}
use Rattle.frame_core.specs.FrameEncoding.{IsAligned}
use Rattle.frame_core.specs.Limits.{is_mtu, is_term_length}
use Rattle.frame_core.specs.Segment.{segment_base}
use Rattle.frame_core.proofs.LimitsLemmas.{exponent_le, is_power}
use Rattle.archive_model.specs.declared.command.StartFields.{StartFields}
use Rattle.archive_model.specs.declared.registration.Change.{Change}
use Rattle.archive_model.specs.declared.registration.Change.TheVariants as changes
use Rattle.archive_model.specs.declared.registration.Registration.{Registration}
use Rattle.archive_model.specs.Checks.{is_of}
use Rattle.archive_model.specs.Descriptor.{is_blank, is_channel, is_in_range, is_layout, is_negative, is_origin, is_source, is_start_position}
use Rattle.archive_model.specs.Version.{holds}
use Rattle.archive_model.specs.declared.version.BankVersion.TheVariants.{Two}
use Rattle.archive_model.specs.Register.{RegisterState, all_stopped, changed, changed_by, id_of, is_active, is_later_base, is_within, registered, registration_in, restarted, with_one, with_out}
use Rattle.archive_model.proofs.RegisterLemmas.{each_map, each_push}
use Rattle.archive_model.specs.Keyed.{Each}
use Rattle.archive_model.proofs.StateLemmas.{each_change, each_without}
use Rattle.archive_model.proofs.WellLemmas.{base_is_term, both}
use Rattle.control_core.specs.Orderly.{AreLaid, IsLaid, IsLayoutIn, stream_end}

-- ---- one recording

pub le_true : (a b : ℤ) → int_le a b ≡ true → a ≤ℤ b
le_true a b is = search rules

lt_true : (a b : ℤ) → int_lt a b ≡ true → a <ℤ b
lt_true a b is = search rules

-- a start position is a multiple of 32 in the stream
start_units : (z term : ℤ) → is_start_position z term ≡ true → (n : ℕ) × (z ≡ pos (32 * n)) × (32 * n ≤ 2 ^ 31 * unsigned_abs term)
unfolding is_start_position
start_units (pos p) term is =
    let parts : ((p % 32 == 0) ≡ true) × (nat_lt p (2 ^ 31 * unsigned_abs term) ≡ true) = both is in
    let whole : p % 32 ≡ 0 = grind (arith, nat_tests) in
    let less : p < 2 ^ 31 * unsigned_abs term = grind (arith, nat_tests) in
    let same : p ≡ 32 * (p / 32) = omega (arith, whole) in
    (p / 32, ap pos same, omega (arith, same, less))
start_units (negsuc p) term is = absurd (true≢false (sym is))

-- what a new recording's range says
record HasRange (f : StartFields) : Type 0 where
  term : is_term_length f.term_length ≡ true
  segment : is_term_length f.segment_length ≡ true
  no_less : f.term_length ≤ℤ f.segment_length
  mtu : is_mtu f.mtu ≡ true
  start : is_start_position f.start_position f.term_length ≡ true
  origin : is_origin f.channel f.source_identity ≡ true

has_range : (f : StartFields) → is_in_range f ≡ true → HasRange f
unfolding is_layout
has_range f range =
    let first : ((is_layout f && is_start_position f.start_position f.term_length) && not (is_negative f.timestamp) ≡ true) × (is_origin f.channel f.source_identity ≡ true) = both range in
    let second : (is_layout f && is_start_position f.start_position f.term_length ≡ true) × (not (is_negative f.timestamp) ≡ true) = both first.0 in
    let third : (is_layout f ≡ true) × (is_start_position f.start_position f.term_length ≡ true) = both second.0 in
    let layout : ((is_term_length f.term_length && is_term_length f.segment_length) && int_le f.term_length f.segment_length ≡ true) × (is_mtu f.mtu ≡ true) = both third.0 in
    let lengths : (is_term_length f.term_length && is_term_length f.segment_length ≡ true) × (int_le f.term_length f.segment_length ≡ true) = both layout.0 in
    let each : (is_term_length f.term_length ≡ true) × (is_term_length f.segment_length ≡ true) = both lengths.0 in
    record { term = each.0; segment = each.1; no_less = le_true f.term_length f.segment_length lengths.1; mtu = layout.1; start = third.1; origin = first.1 }

pub laid_begun : (id : ℤ) (f : StartFields) → is_in_range f ≡ true → IsLaid (registered id f)
laid_begun id f range =
    let has = has_range f range in
    let units = start_units f.start_position f.term_length has.start in
    record {
      laid_out = record {
        layout = record { term = has.term; segment = has.segment; no_less = has.no_less; start = units.0; start_is = units.1; in_terms = units.2 };
        mtu = has.mtu;
      };
      origin = has.origin;
      from_start = omega (arith, ints);
      in_stream = omega (arith, ints, units.1, units.2);
      aligned = (units.0, units.1);
    }

pub laid_stopped : (timestamp : ℤ) (r : Registration) → IsLaid r → IsLaid (changed_by (changes.Stop timestamp) r)
laid_stopped timestamp r laid = record { laid_out = record { layout = laid.laid_out.layout; mtu = laid.laid_out.mtu }; origin = laid.origin; from_start = laid.from_start; in_stream = laid.in_stream; aligned = laid.aligned }

pub laid_extended : (session_id : ℤ) (r : Registration) → IsLaid r → IsLaid (changed_by (changes.Extend session_id) r)
laid_extended session_id r laid = record { laid_out = record { layout = laid.laid_out.layout; mtu = laid.laid_out.mtu }; origin = laid.origin; from_start = laid.from_start; in_stream = laid.in_stream; aligned = laid.aligned }

-- recorded further, in its stream, up to a multiple of 32
pub laid_settled : (position : ℤ) (r : Registration) → IsLaid r → r.recorded ≤ℤ position → position ≤ℤ stream_end r → IsAligned position → IsLaid (changed_by (changes.Settle position) r)
laid_settled position r laid further inside aligned = record {
  laid_out = record { layout = laid.laid_out.layout; mtu = laid.laid_out.mtu };
  origin = laid.origin;
  from_start = omega (arith, ints, laid.from_start, further);
  in_stream = inside;
  aligned = aligned;
}

pub laid_truncated : (position : ℤ) (r : Registration) → IsLaid r → is_within position r ≡ true → IsAligned position → IsLaid (changed_by (changes.Truncate position) r)
laid_truncated position r laid within aligned =
    let ends : (int_le r.descriptor.start_position position ≡ true) × (int_le position r.recorded ≡ true) = both within in
    let low : r.descriptor.start_position ≤ℤ position = le_true r.descriptor.start_position position ends.0 in
    let high : position ≤ℤ r.recorded = le_true position r.recorded ends.1 in
    record { laid_out = record { layout = laid.laid_out.layout; mtu = laid.laid_out.mtu }; origin = laid.origin; from_start = low; in_stream = omega (arith, ints, high, laid.in_stream); aligned = aligned }

-- a base of a segment behind the start lies a whole number of terms into the stream
record IsLater (r : Registration) (position : ℤ) : Type 0 where
  at : ℕ
  is : position ≡ pos at
  behind : unsigned_abs r.descriptor.start_position < at
  before : position ≤ℤ r.recorded
  base : segment_base (unsigned_abs r.descriptor.start_position) (unsigned_abs r.descriptor.term_length) (unsigned_abs r.descriptor.segment_length) at ≡ at

is_later : (r : Registration) (position : ℤ) → is_later_base position r ≡ true → IsLater r position
unfolding is_later_base
is_later r (pos q) base =
    let first : (nat_lt (unsigned_abs r.descriptor.start_position) q && int_le (pos q) r.recorded ≡ true) × (_ ≡ true) = both base in
    let second : (nat_lt (unsigned_abs r.descriptor.start_position) q ≡ true) × (int_le (pos q) r.recorded ≡ true) = both first.0 in
    let same : (segment_base (unsigned_abs r.descriptor.start_position) (unsigned_abs r.descriptor.term_length) (unsigned_abs r.descriptor.segment_length) q == q) ≡ true = first.1 in
    record { at = q; is = refl; behind = grind (arith, nat_tests); before = le_true (pos q) r.recorded second.1; base = grind (arith, nat_tests) }
is_later r (negsuc q) base = absurd (true≢false (sym base))

-- a multiple of a term length is one of 32
of_terms : (at k t a : ℕ) → 16 ≤ a → t ≡ 2 ^ a → at ≡ k * t → at ≡ 32 * (k * 2 ^ (a - 5))
of_terms at k t a least is whole =
    let more : 2 ^ a ≡ 2 ^ (a - 5) * 2 ^ 5 = ap (λ (n : ℕ). 2 ^ n) (omega (arith, least)) ∙ pow-add 2 (a - 5) 5 in
    let steps : k * t ≡ k * (2 ^ (a - 5) * 2 ^ 5) = ap (λ (n : ℕ). k * n) (is ∙ more) in
    omega (arith, whole, steps)

-- the new start is in the stream, and the recorded position where it was
pub laid_purged : (position : ℤ) (r : Registration) → IsLaid r → is_later_base position r ≡ true → IsLaid (changed_by (changes.PurgeSegments position) r)
laid_purged position r laid base =
    let later = is_later r position base in
    let layout : IsLayoutIn r.descriptor.start_position r.descriptor.term_length r.descriptor.segment_length = laid.laid_out.layout in
    let t = is_power r.descriptor.term_length layout.term in
    let s = is_power r.descriptor.segment_length layout.segment in
    let powers : 2 ^ t.0 ≤ 2 ^ s.0 = (let z : pos (2 ^ t.0) ≤ℤ pos (2 ^ s.0) = rw (← t.3, ← s.3) layout.no_less in omega (arith, ints)) in
    let whole = base_is_term (unsigned_abs r.descriptor.start_position) later.at (unsigned_abs r.descriptor.term_length) (unsigned_abs r.descriptor.segment_length) t.0 s.0
    (ap unsigned_abs t.3) (ap unsigned_abs s.3) (exponent_le t.0 s.0 powers) later.behind later.base in
    let multiple : later.at ≡ 32 * (whole.0 * 2 ^ (t.0 - 5)) = of_terms later.at whole.0 (unsigned_abs r.descriptor.term_length) t.0 t.1 (ap unsigned_abs t.3) whole.1 in
    let units : position ≡ pos (32 * (whole.0 * 2 ^ (t.0 - 5))) = later.is ∙ ap pos multiple in
    let inside : pos (32 * (whole.0 * 2 ^ (t.0 - 5))) ≤ℤ stream_end r = omega (arith, ints, units, later.before, laid.in_stream) in
    record {
      laid_out = record {
        layout = record { term = layout.term; segment = layout.segment; no_less = layout.no_less; start = whole.0 * 2 ^ (t.0 - 5); start_is = units; in_terms = omega (arith, ints, inside) };
        mtu = laid.laid_out.mtu;
      };
      origin = laid.origin;
      from_start = later.before;
      in_stream = laid.in_stream;
      aligned = laid.aligned;
    }

laid_restarted : (r : Registration) (b : Bool) → IsLaid r → IsLaid (cond b (changed_by (changes.Stop (negsuc 0)) r) r)
laid_restarted r true laid = laid_stopped (negsuc 0) r laid
laid_restarted r false laid = laid

-- ---- the register

pub one_more_laid : (g : RegisterState) (r : Registration) → AreLaid g → IsLaid r → AreLaid (with_one r g)
one_more_laid g r are laid = each_push IsLaid g.recordings r are laid

pub changed_laid : (g : RegisterState) (id : ℤ) (c : Change) → AreLaid g → ((r : Registration) → registration_in g id ≡ Some r → IsLaid r → IsLaid (changed_by c r)) → AreLaid (changed id c g)
changed_laid g id c are keeps = each_change id_of IsLaid id (changed_by c) g.recordings are keeps

pub one_less_laid : (g : RegisterState) (id : ℤ) → AreLaid g → AreLaid (with_out id g)
one_less_laid g id are = each_without id_of IsLaid id g.recordings are

pub all_stopped_laid : (g : RegisterState) → AreLaid g → AreLaid (all_stopped g)
all_stopped_laid g are = each_map IsLaid restarted g.recordings (λ r laid. laid_restarted r (is_active r) laid) are

-- a test of what is found holds of the recording
pub test_of : (o : Option Registration) (test : Registration → Bool) (r : Registration) → o ≡ Some r → is_of o test ≡ true → test r ≡ true
test_of o test r found is = ap (λ (x : Option Registration). is_of x test) (sym found) ∙ is

-- ---- what a bank of version 2 can hold

channel_held : (text : List ℕ) → is_channel text ≡ true → nat_le (length text) 1024 ≡ true
unfolding is_channel
channel_held text is =
    let first : ((nat_le 1 (length text) && nat_le (length text) 1024) ≡ true) × (not (list_any is_control (chars text)) ≡ true) = both is in
    (both first.0).1

source_held : (text : List ℕ) → is_source text ≡ true → nat_le (length text) 128 ≡ true
unfolding is_source
source_held text is =
    let first : (nat_le (length text) 128 ≡ true) × (not (list_any is_blank (chars text)) ≡ true) = both is in
    first.0

one_held : (r : Registration) → IsLaid r → holds Two r.descriptor.channel r.descriptor.source_identity ≡ true
one_held r laid =
    let origin : (is_channel r.descriptor.channel ≡ true) × (is_source r.descriptor.source_identity ≡ true) = both laid.origin in
    rw (channel_held r.descriptor.channel origin.0, source_held r.descriptor.source_identity origin.1) refl

-- recordings that are laid fit into a bank of version 2
pub laid_held : (rs : List Registration) → Each IsLaid rs → list_all (λ r. holds Two r.descriptor.channel r.descriptor.source_identity) rs ≡ true
laid_held [] are = refl
laid_held (r ∷ rs) are = rw (one_held r are.0, laid_held rs are.1) refl
