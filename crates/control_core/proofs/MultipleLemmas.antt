-- Boundaries of a recording are multiples of 32.
use Rattle.std.proofs.Common.{◌≡◌, ◌+ℤ◌, ◌≤ℤ◌, ◌+◌, ◌*◌, ◌/◌, ◌||◌, ℤ, pos, Bool, true, false, true≢false, sym, subst, refl, List, [], ◌∷◌, Some, unsigned_abs, arith}
use Rattle.std.proofs.lemmas.Int.{ints}
use Rattle.std.proofs.lemmas.Bool.Decides.{Decides-int_eq}
use Rattle.std.specs.Prelude.{IsTrue}
use Rattle.std.specs.Ordering.{int_eq}
use Rattle.frame_core.specs.declared.frame.Frame.{Frame}
use Rattle.frame_core.specs.FrameEncoding.{IsAligned, aligned_length}
use Rattle.archive_model.specs.Descriptor.{is_aligned}
use Rattle.archive_model.specs.Replay.{begins_frame, is_boundary, placed}
use Rattle.archive_model.specs.State.{Recording, id_of, recorded_position}
use Rattle.archive_model.specs.WellFormed.{IsKept}
use Rattle.archive_model.proofs.AlignedLemmas.{aligned_of_units}
use Rattle.archive_model.proofs.ReplayLemmas.{begins_at}
use Rattle.archive_model.proofs.StateLemmas.{each_found}
use Rattle.archive_model.proofs.StreamLemmas.{aligned_behind}
use Rattle.control_core.specs.Consistent.{IsConsistent}
use Rattle.control_core.specs.Exact.{Archive, recording_at}

-- a frame that begins at a multiple of 32 fills up to one
behind_frame : (at : ℤ) (f : Frame) → IsAligned at → IsAligned (at +ℤ pos (aligned_length f))
behind_frame at f aligned =
    let is : at ≡ pos (32 * aligned.0) = aligned.1 in
    (aligned.0 + (unsigned_abs f.length + 31) / 32, omega (arith, ints, is))

begins_aligned : (position at : ℤ) (fs : List Frame) → IsAligned at → begins_at position (placed at fs) ≡ true → IsAligned position
begins_aligned position at [] aligned begins = absurd (true≢false (sym begins))
begins_aligned position at (f ∷ fs) aligned begins = by (int_eq position at) refl begins (begins_aligned position (at +ℤ pos (aligned_length f)) fs (behind_frame at f aligned))
  where
    by : (b : Bool) → int_eq position at ≡ b → (b || begins_at position (placed (at +ℤ pos (aligned_length f)) fs)) ≡ true → (begins_at position (placed (at +ℤ pos (aligned_length f)) fs) ≡ true → IsAligned position) → IsAligned position
    by true same any later = subst IsAligned (sym ((Decides-int_eq position at).0 same)) aligned
    by false same any later = later any

end_aligned : (r : Recording) → IsKept r → IsAligned (recorded_position r)
end_aligned r kept =
    let low : pos 0 ≤ℤ recorded_position r = omega (arith, ints, kept.start) in
    aligned_behind (recorded_position r) r.descriptor.start_position [] r.frames low kept.aligned (omega (arith, ints))

boundary_aligned : (position : ℤ) (r : Recording) → IsKept r → is_boundary position r ≡ true → IsAligned position
boundary_aligned position r kept is = by (int_eq position r.descriptor.start_position) (int_eq position (recorded_position r)) refl refl is
  where
    by : (b t : Bool) → int_eq position r.descriptor.start_position ≡ b → int_eq position (recorded_position r) ≡ t → ((b || t) || begins_frame position r) ≡ true → IsAligned position
    by true t first last any = subst IsAligned (sym ((Decides-int_eq position r.descriptor.start_position).0 first)) kept.aligned
    by false true first last any = subst IsAligned (sym ((Decides-int_eq position (recorded_position r)).0 last)) (end_aligned r kept)
    by false false first last any = begins_aligned position r.descriptor.start_position r.frames kept.aligned any

pub boundary_multiple : (a : Archive) (id position : ℤ) (r : Recording) → IsConsistent a → recording_at a id ≡ Some r → IsTrue (is_boundary position r) → IsTrue (is_aligned position)
boundary_multiple a id position r consistent found is =
    aligned_of_units position (boundary_aligned position r (each_found id_of IsKept id a.state.recordings r consistent.well.kept found) is)
