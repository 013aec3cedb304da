-- Recordings stay laid, whatever entries make of them.
use Rattle.std.proofs.Common.{◌≡◌, ◌<ℤ◌, ◌≤ℤ◌, ◌*◌, ◌^◌, ◌≤◌, ◌&&◌, sym, ℤ, pos, negsuc, true, true≢false, List, [], ◌∷◌, length, int_le, int_lt, nat_lt, unsigned_abs, arith, rules}
use Rattle.std.proofs.lemmas.Int.{ints}
use Rattle.std.proofs.lemmas.Bool.Decides.{nat_tests}
use Rattle.std.specs.Prelude.{IsTrue, not}
use Rattle.engine_core.proofs.Words.{Descriptor, Entry, IsLaid, RegisterState, Registration, after_entries, after_entry, both, is_later_base, is_term_length, registration_in}
use Rattle.frame_core.specs.Limits.{is_mtu}
use Rattle.std.specs.Ordering.{int_eq}
use Rattle.archive_model.specs.declared.registration.Change.TheVariants as changes
use Rattle.archive_model.specs.Descriptor.{is_aligned, is_in_range, is_negative, is_origin}
use Rattle.archive_model.specs.Register.{changed_by, is_active, is_behind, is_within, may_begin, may_record, registered}
use Rattle.archive_model.proofs.AlignedLemmas.{aligned_units}
use Rattle.catalogue_entries.specs.declared.entry.Entry.TheVariants.{Start, Settle, Stop, Extend, Truncate, PurgeSegments, PurgeRecording, Restart, Whole, NextId}
use Rattle.catalogue_entries.specs.Fold.{AreAdmitted, Place, has_limits, is_in_stream, is_recorded_to, is_stopped, as_kept, may_settle, may_truncate, place_behind, restores, takes}
use Rattle.catalogue_entries.proofs.CallerLemmas.{stands_takes}
use Rattle.control_core.specs.Orderly.{AreLaid}
use Rattle.control_core.proofs.LaidLemmas.{all_stopped_laid, changed_laid, laid_begun, laid_extended, laid_purged, laid_settled, laid_stopped, laid_truncated, one_less_laid, one_more_laid, test_of}

lt_true : (a b : ℤ) → int_lt a b ≡ true → a <ℤ b
lt_true a b is = search rules

within_stream : (z term : ℤ) → is_in_stream z term ≡ true → z ≤ℤ pos (2 ^ 31 * unsigned_abs term)
unfolding is_in_stream
within_stream (pos p) term is = let low : p ≤ 2 ^ 31 * unsigned_abs term = grind (arith, nat_tests) in omega (arith, ints, low)
within_stream (negsuc p) term is = absurd (true≢false (sym is))

settled_further : (position : ℤ) (r : Registration) → may_settle position r ≡ true → IsLaid r
    → IsLaid (changed_by (changes.Settle position) r)
settled_further position r may laid =
    let first : ((is_active r && int_lt r.recorded position) && is_aligned position ≡ true) × (is_in_stream position r.descriptor.term_length ≡ true) = both may in
    let second : (is_active r && int_lt r.recorded position ≡ true) × (is_aligned position ≡ true) = both first.0 in
    let third : (is_active r ≡ true) × (int_lt r.recorded position ≡ true) = both second.0 in
    let more : r.recorded <ℤ position = lt_true r.recorded position third.1 in
    laid_settled position r laid (omega (arith, ints, more)) (within_stream position r.descriptor.term_length first.1) (aligned_units position second.1)

truncated_within : (position : ℤ) (r : Registration) → may_truncate position r ≡ true → IsLaid r
    → IsLaid (changed_by (changes.Truncate position) r)
truncated_within position r may laid =
    let first : (is_stopped r && is_within position r ≡ true) × (is_aligned position ≡ true) = both may in
    let second : (is_stopped r ≡ true) × (is_within position r ≡ true) = both first.0 in
    laid_truncated position r laid second.1 (aligned_units position first.1)

le_true : (a b : ℤ) → int_le a b ≡ true → a ≤ℤ b
le_true a b is = search rules

-- the limits of a recording
pub record HasLimits (d : Descriptor) : Type 0 where
  pub term : is_term_length d.term_length ≡ true
  pub segment : is_term_length d.segment_length ≡ true
  pub no_less : d.term_length ≤ℤ d.segment_length
  pub mtu : is_mtu d.mtu ≡ true
  pub origin : is_origin d.channel d.source_identity ≡ true

limits_of : (d : Descriptor) → has_limits d ≡ true → HasLimits d
unfolding has_limits
limits_of d is =
    let a : (((((is_term_length d.term_length && is_term_length d.segment_length) && int_le d.term_length d.segment_length) && is_mtu d.mtu) && is_origin d.channel d.source_identity) ≡ true) × (not (is_negative d.start_timestamp) ≡ true) = both is in
    let b : ((((is_term_length d.term_length && is_term_length d.segment_length) && int_le d.term_length d.segment_length) && is_mtu d.mtu) ≡ true) × (is_origin d.channel d.source_identity ≡ true) = both a.0 in
    let c : (((is_term_length d.term_length && is_term_length d.segment_length) && int_le d.term_length d.segment_length) ≡ true) × (is_mtu d.mtu ≡ true) = both b.0 in
    let e : ((is_term_length d.term_length && is_term_length d.segment_length) ≡ true) × (int_le d.term_length d.segment_length ≡ true) = both c.0 in
    let f : (is_term_length d.term_length ≡ true) × (is_term_length d.segment_length ≡ true) = both e.0 in
    record { term = f.0; segment = f.1; no_less = le_true d.term_length d.segment_length e.1; mtu = c.1; origin = b.1 }

-- a recording that a compaction kept is laid
kept_laid : (g : RegisterState) (d : Descriptor) → restores g d ≡ true → IsLaid (as_kept d)
kept_laid g d is =
    let a : (((((is_behind g.recordings d.recording && int_lt d.recording g.next) && nat_lt (length g.recordings) 1024) && has_limits d) && int_le (negsuc 0) d.stop_timestamp) ≡ true) × (is_recorded_to d.stop_position d ≡ true) = both is in
    let b : ((((is_behind g.recordings d.recording && int_lt d.recording g.next) && nat_lt (length g.recordings) 1024) && has_limits d) ≡ true) × (int_le (negsuc 0) d.stop_timestamp ≡ true) = both a.0 in
    let c : (((is_behind g.recordings d.recording && int_lt d.recording g.next) && nat_lt (length g.recordings) 1024) ≡ true) × (has_limits d ≡ true) = both b.0 in
    let e : (((is_aligned d.start_position && is_aligned d.stop_position) && int_le d.start_position d.stop_position) ≡ true) × (is_in_stream d.stop_position d.term_length ≡ true) = both a.1 in
    let f : ((is_aligned d.start_position && is_aligned d.stop_position) ≡ true) × (int_le d.start_position d.stop_position ≡ true) = both e.0 in
    let h : (is_aligned d.start_position ≡ true) × (is_aligned d.stop_position ≡ true) = both f.0 in
    let limits = limits_of d c.1 in
    let units = aligned_units d.start_position h.0 in
    let from : d.start_position ≤ℤ d.stop_position = le_true d.start_position d.stop_position f.1 in
    let ends : d.stop_position ≤ℤ pos (2 ^ 31 * unsigned_abs d.term_length) = within_stream d.stop_position d.term_length e.1 in
    record {
      laid_out = record {
        layout = record { term = limits.term; segment = limits.segment; no_less = limits.no_less; start = units.0; start_is = units.1; in_terms = omega (arith, ints, from, ends, units.1) };
        mtu = limits.mtu;
      };
      origin = limits.origin;
      from_start = from;
      in_stream = ends;
      aligned = aligned_units d.stop_position h.1;
    }

-- an entry that may follow keeps recordings laid
pub entry_laid : (g : RegisterState) (e : Entry) → IsTrue (takes g e) → AreLaid g
    → AreLaid (after_entry g e)
entry_laid g (Start id f) may are =
    let first : ((int_eq id g.next && is_in_range f) && may_begin g ≡ true) × (may_record g ≡ true) = both may in
    let second : (int_eq id g.next && is_in_range f ≡ true) × (may_begin g ≡ true) = both first.0 in
    let third : (int_eq id g.next ≡ true) × (is_in_range f ≡ true) = both second.0 in
    one_more_laid g (registered id f) are (laid_begun id f third.1)
entry_laid g (Settle id position) may are = changed_laid g id (changes.Settle position) are (λ r found laid. settled_further position r (test_of (registration_in g id) (may_settle position) r found may) laid)
entry_laid g (Stop id timestamp) may are = changed_laid g id (changes.Stop timestamp) are (λ r found laid. laid_stopped timestamp r laid)
entry_laid g (Extend id session_id) may are = changed_laid g id (changes.Extend session_id) are (λ r found laid. laid_extended session_id r laid)
entry_laid g (Truncate id position) may are = changed_laid g id (changes.Truncate position) are (λ r found laid. truncated_within position r (test_of (registration_in g id) (may_truncate position) r found may) laid)
entry_laid g (PurgeSegments id position) may are =
    changed_laid g id (changes.PurgeSegments position) are (λ r found laid. laid_purged position r laid (test_of (registration_in g id) (is_later_base position) r found may))
entry_laid g (PurgeRecording id) may are = one_less_laid g id are
entry_laid g Restart may are = all_stopped_laid g are
entry_laid g (Whole d) may are = one_more_laid g (as_kept d) are (kept_laid g d may)
entry_laid g (NextId next) may are = tt

pub entries_laid : (p : Place) (es : List Entry) → AreAdmitted p es → AreLaid p.register
    → AreLaid (after_entries p.register es)
entries_laid p [] admitted are = are
entries_laid p (e ∷ es) admitted are = entries_laid (place_behind p e) es admitted.1 (entry_laid p.register e (stands_takes p e admitted.0.1) are)
