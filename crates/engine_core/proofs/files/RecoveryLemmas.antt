-- What an image recovers to.
use Rattle.std.proofs.Common.{rules, ◌≡◌, ◌≢◌, ◌∙◌, sym, ap, subst, refl, ℕ, ℤ, pos, ◌+◌, ◌+ℤ◌, ◌≤ℤ◌, ◌&&◌, Bool, true, false, true≢false, List, [], ◌∷◌, Some, map, arith}
use Rattle.std.proofs.lemmas.Int.{ints}
use Rattle.std.proofs.lemmas.Bool.Decides.{nat_tests, Decides-int_eq}
use Rattle.std.specs.Prelude.{int_le, unsigned_abs}
use Rattle.std.specs.Ordering.{int_eq}
use Rattle.engine_core.proofs.Words.{Descriptor, DiskImage, Each, Files, Frame, FrameKind, Geometry, Heartbeat, HoldsRecording, IsDurable, IsKept, IsOfStream, IsSound, Layout, LogState, MayLeave, Message, Pad, Recording, Recovers, RegisterState, Registration, State, after_entries, aligned_length, covered, first_of, geometry_of, last_of, layout_of, no_recordings, one_catalogue, recorded_position, register_of, registration_of, rest_left}
use Rattle.frame_core.specs.Position.{frame_position}
use Rattle.frame_core.proofs.PositionLemmas.{is_given}
use Rattle.segment_store.specs.Boundary.{IsChain}
use Rattle.segment_store.specs.DamagedFrame.{belongs_at, is_at, is_stored}
use Rattle.segment_store.proofs.DurableLemmas.{durable_stand, one_shown}
use Rattle.replay_core.specs.Poll.{Belong}
use Rattle.replay_core.proofs.GivenLemmas.{covers, held_shown, rises}
use Rattle.archive_model.specs.Histories.{AreContiguous}

pub durable_hold : (files : Files) (image : DiskImage) (rs : List Recording) → MayLeave files image
    → Each (IsDurable files) rs → Each (HoldsRecording image) rs
durable_hold files image [] leaves all = tt
durable_hold files image (r ∷ rs) leaves all =
    (durable_stand files (layout_of r.descriptor) r.frames (first_of r) (last_of r) image all.0 leaves, durable_hold files image rs leaves all.1)

pub sound_recovers : (files : Files) (log : LogState) (s : State) (image : DiskImage)
    → IsSound files log s → MayLeave files image → Recovers image s
sound_recovers files log s image sound leaves = record {
  header = log.header;
  entries = sound.entries;
  catalogue = rest_left files log sound.entries image sound.rests leaves;
  folds = sound.folds;
  frames = durable_hold files image s.recordings leaves sound.frames;
  well = sound.well;
}

-- frames of a recording belong where they stand

stored_kind : (kind : FrameKind) → kind ≢ Heartbeat → is_stored kind ≡ true
stored_kind Pad other = refl
stored_kind Message other = refl
stored_kind Heartbeat other = absurd (other refl)

and_true : {a b : Bool} → a ≡ true → b ≡ true → a && b ≡ true
and_true {a = true} {b = b} first second = second
and_true {a = false} {b = b} first second = absurd (true≢false (sym first))

at_self : (p : ℕ) → is_at p (Some p) ≡ true
at_self p = grind (arith, nat_tests)

belongs : (d : Descriptor) (limit : ℤ) (p : ℕ) (f : Frame) → frame_position (geometry_of d) f ≡ Some p → IsOfStream d.stream_id f → (f.term_offset +ℤ pos (aligned_length f)) ≤ℤ d.term_length → pos (p + aligned_length f) ≤ℤ limit
    → belongs_at (layout_of d) (geometry_of d) p limit f ≡ true
unfolding belongs_at
belongs d limit p f at stream inside within =
    let stored : is_stored f.kind ≡ true = stored_kind f.kind stream.kind in
    let same : int_eq f.stream_id d.stream_id ≡ true = (Decides-int_eq f.stream_id d.stream_id).1 stream.stream_is in
    let here : is_at p (frame_position (geometry_of d) f) ≡ true = ap (is_at p) at ∙ at_self p in
    let in_term : int_le (f.term_offset +ℤ pos (aligned_length f)) d.term_length ≡ true = search rules in
    let in_limit : int_le (pos (p + aligned_length f)) limit ≡ true = search rules in
    and_true (and_true (and_true (and_true stored same) here) in_term) in_limit

pub belong : (d : Descriptor) (limit : ℤ) (fs : List Frame) (p : ℕ) → AreContiguous (geometry_of d) (pos p) fs → Each (IsOfStream d.stream_id) fs → (pos p +ℤ pos (covered fs)) ≤ℤ limit → Belong (layout_of d) (geometry_of d) limit p fs
belong d limit [] p contiguous stream within = tt
belong d limit (f ∷ fs) p contiguous stream within =
    let given = is_given (geometry_of d) f.term_id f.term_offset (pos p) contiguous.0 in
    let same : given.0 ≡ p = omega (arith, ints, given.2) in
    let at : frame_position (geometry_of d) f ≡ Some p = given.1 ∙ ap Some same in (
      belongs d limit p f at stream.0 contiguous.1 (omega (arith, ints, within)),
      belong d limit fs (p + aligned_length f) contiguous.2 stream.1 (omega (arith, ints, within)),
    )

-- two lists of frames that are shown from one position to another are one
pub one_chain : (image : DiskImage) (l : Layout) (g : Geometry) (limit : ℤ) (fs gs : List Frame) (from to : ℕ) → IsChain image l g limit from fs to → IsChain image l g limit from gs to → fs ≡ gs
one_chain image l g limit [] [] from to here there = refl
one_chain image l g limit [] (h ∷ hs) from to here there =
    absurd (omega (arith, here, covers image l g limit from h there.0, rises image l g limit hs (from + aligned_length h) to there.1))
one_chain image l g limit (f ∷ fs) [] from to here there =
    absurd (omega (arith, there, covers image l g limit from f here.0, rises image l g limit fs (from + aligned_length f) to here.1))
one_chain image l g limit (f ∷ fs) (h ∷ hs) from to here there =
    let same : f ≡ h = one_shown image l g limit from f h here.0 there.0 in
    let rest : fs ≡ hs = one_chain image l g limit fs hs (from + aligned_length f) to here.1 (subst (λ (n : ℕ). IsChain image l g limit (from + n) hs to) (sym (ap aligned_length same)) there.1) in
    ap (λ (x : Frame). x ∷ fs) same ∙ ap (λ (xs : List Frame). h ∷ xs) rest

-- a recording's frames are shown from its start to its recorded position
pub shown : (image : DiskImage) (r : Recording) → IsKept r → HoldsRecording image r → IsChain image (layout_of r.descriptor) (geometry_of r.descriptor) (recorded_position r) (first_of r) r.frames (last_of r)
shown image r kept holds =
    let start : pos (first_of r) ≡ r.descriptor.start_position = omega (arith, ints, kept.start) in
    let contiguous : AreContiguous (geometry_of r.descriptor) (pos (first_of r)) r.frames = subst (λ (z : ℤ). AreContiguous (geometry_of r.descriptor) z r.frames) (sym start) kept.contiguous in
    held_shown image (layout_of r.descriptor) (geometry_of r.descriptor) (recorded_position r) r.frames (first_of r) (last_of r) holds kept.encodable
    (belong r.descriptor (recorded_position r) r.frames (first_of r) contiguous kept.of_stream (omega (arith, ints, start)))

one_recording : (image : DiskImage) (r v : Recording) → IsKept r → IsKept v → HoldsRecording image r → HoldsRecording image v → registration_of r ≡ registration_of v → r ≡ v
one_recording image r v kept kept' here there same =
    let descriptor : r.descriptor ≡ v.descriptor = ap (λ (x : Registration). x.descriptor) same in
    let recorded : recorded_position r ≡ recorded_position v = ap (λ (x : Registration). x.recorded) same in
    let d : Descriptor = r.descriptor in
    let other : IsChain image (layout_of d) (geometry_of d) (recorded_position r) (first_of r) v.frames (last_of r) =
    subst (λ (z : ℤ). IsChain image (layout_of d) (geometry_of d) z (first_of r) v.frames (unsigned_abs z)) (sym recorded)
    (subst (λ (e : Descriptor). IsChain image (layout_of e) (geometry_of e) (recorded_position v) (unsigned_abs e.start_position) v.frames (last_of v)) (sym descriptor) (shown image v kept' there)) in
    let frames : r.frames ≡ v.frames = one_chain image (layout_of d) (geometry_of d) (recorded_position r) r.frames v.frames (first_of r) (last_of r) (shown image r kept here) other in
    ap (λ (e : Descriptor). record { descriptor = e; frames = r.frames }) descriptor ∙ ap (λ (xs : List Frame). record { descriptor = v.descriptor; frames = xs }) frames

one_list : (image : DiskImage) (rs vs : List Recording) → Each IsKept rs → Each IsKept vs → Each (HoldsRecording image) rs → Each (HoldsRecording image) vs → map registration_of rs ≡ map registration_of vs → rs ≡ vs
one_list image [] [] kept kept' here there same = refl
one_list image [] (v ∷ vs) kept kept' here there same = absurd cc
one_list image (r ∷ rs) [] kept kept' here there same = absurd cc
one_list image (r ∷ rs) (v ∷ vs) kept kept' here there same =
    let head : registration_of r ≡ registration_of v = cc in
    let tail : map registration_of rs ≡ map registration_of vs = cc in
    let first : r ≡ v = one_recording image r v kept.0 kept'.0 here.0 there.0 head in
    let rest : rs ≡ vs = one_list image rs vs kept.1 kept'.1 here.1 there.1 tail in
    ap (λ (x : Recording). x ∷ rs) first ∙ ap (λ (xs : List Recording). v ∷ xs) rest

pub one_state : (image : DiskImage) (s u : State) → Recovers image s → Recovers image u → s ≡ u
one_state image s u here there =
    let entries : here.entries ≡ there.entries = (one_catalogue image here.header there.header here.entries there.entries here.catalogue there.catalogue).1 in
    let registers : register_of s ≡ register_of u = sym here.folds ∙ ap (after_entries no_recordings) entries ∙ there.folds in
    let next : s.next ≡ u.next = ap (λ (g : RegisterState). g.next) registers in
    let lists : map registration_of s.recordings ≡ map registration_of u.recordings = ap (λ (g : RegisterState). g.recordings) registers in
    let recordings : s.recordings ≡ u.recordings = one_list image s.recordings u.recordings here.well.kept there.well.kept here.frames there.frames lists in
    ap (λ (rs : List Recording). record { recordings = rs; next = s.next }) recordings ∙ ap (λ (n : ℤ). record { recordings = u.recordings; next = n }) next
