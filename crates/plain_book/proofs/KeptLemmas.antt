-- What is kept of a recording that is changed.
use Rattle.std.proofs.Common.{◌≡◌, ◌<◌, ◌≤◌, ◌^◌, ◌+ℤ◌, ℤ, pos, negsuc, Bool, List, [], ◌++◌, true, false, refl, sym, ap, ◌∙◌, unsigned_abs, arith}
use Rattle.std.proofs.lemmas.Int.{ints}
use Rattle.std.proofs.Math.Pow.{pow_mono}
use Rattle.frame_core.specs.declared.frame.Frame.{Frame}
use Rattle.frame_core.specs.declared.block.Block.{Block}
use Rattle.frame_core.specs.Block.{covered}
use Rattle.frame_core.specs.Limits.{is_term_length}
use Rattle.frame_core.proofs.LimitsLemmas.{is_power}
use Rattle.archive_model.specs.declared.command.StartFields.{StartFields}
use Rattle.archive_model.specs.declared.registration.Registration.{Registration}
use Rattle.archive_model.specs.declared.registration.Change.{Change}
use Rattle.archive_model.specs.declared.registration.Change.TheVariants.{Settle, Stop, Extend, Truncate, PurgeSegments}
use Rattle.archive_model.specs.Descriptor.{is_in_range}
use Rattle.archive_model.specs.Register.{HasLayout, begun, changed_by}
use Rattle.archive_model.specs.State.{Recording, id_of, is_active, recorded_position, registration_of}
use Rattle.archive_model.specs.Commands.{frames_of, appended, restarted}
use Rattle.archive_model.specs.Acceptance.{Continue}
use Rattle.plain_book.specs.Kept.{MayChange, KeepsRecorded, left_by, made_of}
use Rattle.archive_model.specs.WellFormed.{IsKept}
use Rattle.archive_model.proofs.HistoriesLemmas.{covered-append}
use Rattle.archive_model.proofs.RegisterLemmas.{id_kept}
use Rattle.archive_model.proofs.StateLemmas.{kept_appended, kept_fresh, kept_extended, kept_purged, kept_stopped, kept_truncated, purged_ends, truncated_ends}

kept_made : (c : Change) (r : Recording) → IsKept r → MayChange r c → IsKept (made_of c r)
kept_made (Settle position) r kept allowed = absurd allowed
kept_made (Stop timestamp) r kept allowed = kept_stopped timestamp r kept
kept_made (Extend session_id) r kept allowed = kept_extended session_id r kept
kept_made (Truncate position) r kept allowed = kept_truncated r position kept allowed
kept_made (PurgeSegments position) r kept allowed = kept_purged r position kept allowed

recorded_made : (c : Change) (r : Recording) → IsKept r → MayChange r c → (changed_by c (registration_of r)).recorded ≡ recorded_position (made_of c r)
recorded_made (Settle position) r kept allowed = absurd allowed
recorded_made (Stop timestamp) r kept allowed = refl
recorded_made (Extend session_id) r kept allowed = refl
recorded_made (Truncate position) r kept allowed = sym (truncated_ends r position kept allowed)
recorded_made (PurgeSegments position) r kept allowed = sym (purged_ends r position kept allowed)

pub id_made : (c : Change) (r : Recording) → id_of (made_of c r) ≡ id_of r
id_made c r = id_kept c (registration_of r)

has_length : (z : ℤ) → is_term_length z ≡ true → 0 < unsigned_abs z
has_length z is =
    let power = is_power z is in
    let whole : unsigned_abs z ≡ 2 ^ power.0 = ap unsigned_abs power.3 in
    let least : 2 ^ 16 ≤ 2 ^ power.0 = pow_mono power.1 in
    omega (arith, whole)

pub has_layout : (r : Recording) → IsKept r → HasLayout r.descriptor
has_layout r kept = record { term = has_length r.descriptor.term_length kept.term; segment = has_length r.descriptor.segment_length kept.segment }

pub keeps_fresh : (id : ℤ) (f : StartFields) (fs : List Frame) → fs ≡ [] → is_in_range f ≡ true → KeepsRecorded (record { descriptor = begun id f; frames = fs }) f.start_position
keeps_fresh id f fs none range = rw none (record { recorded_is = omega (arith, ints); kept = kept_fresh id f range })

pub keeps_appended : (r new : Recording) (recorded end : ℤ) (blocks : List Block) → KeepsRecorded r recorded → Continue r blocks → is_active r ≡ true → end ≡ recorded_position r +ℤ pos (covered (frames_of blocks))
    → new ≡ appended blocks r → KeepsRecorded new end
keeps_appended r new recorded end blocks keeps next active ends is =
    let parts = covered-append r.frames (frames_of blocks) in
    let sum : end ≡ r.descriptor.start_position +ℤ pos (covered (r.frames ++ frames_of blocks)) = omega (arith, ints) in
    rw is (record { recorded_is = sum; kept = kept_appended r blocks keeps.kept next active })

abbrev pub recording_of : Registration → List Frame → Recording
recording_of g fs = record { descriptor = g.descriptor; frames = fs }

pub keeps_changed : (c : Change) (g h : Registration) (start : ℤ) (fs left : List Frame) → KeepsRecorded (recording_of g fs) g.recorded → MayChange (recording_of g fs) c → start ≡ g.descriptor.start_position → h ≡ changed_by c g
    → left ≡ left_by c start fs → KeepsRecorded (recording_of h left) h.recorded
keeps_changed c g h start fs left keeps allowed at is rest =
    let r : Recording = recording_of g fs in
    let same : g ≡ registration_of r = ap (λ (z : ℤ). record { descriptor = g.descriptor; recorded = z }) keeps.recorded_is in
    let changed : h ≡ changed_by c (registration_of r) = is ∙ ap (changed_by c) same in
    let frames : left ≡ left_by c g.descriptor.start_position fs = rest ∙ ap (λ (z : ℤ). left_by c z fs) at in
    rw (changed, frames) (record { recorded_is = recorded_made c r keeps.kept allowed; kept = kept_made c r keeps.kept allowed })

-- a recording that is restarted, whose recorded position stays
pub keeps_restarted : (r : Recording) (recorded : ℤ) (b : Bool) → is_active r ≡ b → KeepsRecorded r recorded → KeepsRecorded (restarted r) recorded
keeps_restarted r recorded true is keeps = rw is (record { recorded_is = keeps.recorded_is; kept = kept_stopped (negsuc 0) r keeps.kept })
keeps_restarted r recorded false is keeps = rw is keeps
