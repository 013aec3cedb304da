-- What recorder sessions wrote stands behind what is recorded, while the archive goes on.
use Rattle.std.proofs.Common.{rules, ◌&&◌, nat_lt, int_le, ◌≡◌, ◌⊎◌, ◌∙◌, ◌+◌, ◌≤ℤ◌, ◌≤◌, ◌-◌, sym, ap, subst, refl, ℕ, ℤ, pos, negsuc, true, true≢false, Option, Some, List, [], ◌∷◌, inl, inr, arith}
use Rattle.std.proofs.lemmas.Int.{ints}
use Rattle.std.specs.Prelude.{unsigned_abs}
use Rattle.engine_core.proofs.Words.{Archive, Block, DiskImage, Each, FileId, Frame, Holds, HoldsFrames, IsConsistent, IsKept, IsWriting, Layout, LieIn, RecorderSession, Recording, Segment, Stands, StandsBehind, StaysOpen, aligned_length, base_of, both, bytes_of, covered, each_found, file_of, frames_of, id_of, is_later_base, last_of, layout_of, offset_of, recorded_position, registration_in, registration_of, session_number, stored}
use Rattle.archive_model.specs.Commands.{purged}
use Rattle.archive_model.specs.Register.{is_active}
use Rattle.archive_model.proofs.StateLemmas.{purged_ends}
use Rattle.control_core.specs.Consistent.{IsSameOrLater}
use Rattle.engine_core.proofs.files.FrameLemmas.{each_then}
use Rattle.engine_core.proofs.calls.KnownLemmas.{is_there, known_recording}
use Rattle.engine_core.proofs.files.StayLemmas.{IsLater, is_later, same_bases}

-- ---- in another image

-- frames stand on where no segment file has changed
frames_hold_on : (old new : DiskImage) (l : Layout) (fs : List Frame) (from to : ℕ) → ((id base : ℤ) → new (Segment id base) ≡ old (Segment id base)) → HoldsFrames old l from fs to → HoldsFrames new l from fs to
frames_hold_on old new l [] from to same stand = stand
frames_hold_on old new l (f ∷ fs) from to same stand = (
  subst (λ (o : Option (List ℕ)). Holds (bytes_of o) (offset_of l from) (stored f)) (sym (same l.recording (pos (base_of l from)))) stand.0,
  frames_hold_on old new l fs (from + aligned_length f) to same stand.1,
)

-- or where none of a recording's has, from a position on
pub frames_behind : (old new : DiskImage) (l : Layout) (fs : List Frame) (least from to : ℕ) → least ≤ from → ((p : ℕ) → least ≤ p → new (file_of l p) ≡ old (file_of l p)) → HoldsFrames old l from fs to → HoldsFrames new l from fs to
frames_behind old new l [] least from to behind same stand = stand
frames_behind old new l (f ∷ fs) least from to behind same stand = (
  subst (λ (o : Option (List ℕ)). Holds (bytes_of o) (offset_of l from) (stored f)) (sym (same from behind)) stand.0,
  frames_behind old new l fs least (from + aligned_length f) to (omega (arith, behind)) same stand.1,
)

-- what each session wrote stands on where no segment file has changed
pub stand_on : (old new : DiskImage) (a : Archive) (ss : List RecorderSession) → ((id base : ℤ) → new (Segment id base) ≡ old (Segment id base)) → Each (StandsBehind old a) ss → Each (StandsBehind new a) ss
stand_on old new a ss same all =
    each_then (StandsBehind old a) (StandsBehind new a) ss all
    (λ s stands r found.
    let was = stands r found in
    record { holds = frames_hold_on old new (layout_of r.descriptor) (frames_of (a.blocks s.number)) (last_of r) (last_of r + covered (frames_of (a.blocks s.number))) same was.holds; lie = was.lie })

-- ---- in another archive

-- nothing is written
pub stands_nothing : (image : DiskImage) (b : Archive) (s : RecorderSession)
    → b.blocks s.number ≡ [] → StandsBehind image b s
stands_nothing image b s none = λ r found. subst (λ (bs : List Block). Stands image (file_of (layout_of r.descriptor) (last_of r)) r (frames_of bs)) (sym none) (record { holds = omega arith; lie = tt })

-- frames of a recording whose first segments are gone

frames_based : (image : DiskImage) (old new : Layout) (fs : List Frame) (from to : ℕ) → new.recording ≡ old.recording → ((q : ℕ) → from ≤ q → base_of new q ≡ base_of old q) → HoldsFrames image old from fs to → HoldsFrames image new from fs to
frames_based image old new [] from to recording same stand = stand
frames_based image old new (f ∷ fs) from to recording same stand =
    let here : base_of new from ≡ base_of old from = same from (omega (arith)) in (
      subst (λ (b : ℕ). Holds (bytes_of (image (Segment new.recording (pos b)))) (from - b) (stored f)) (sym here)
          (subst (λ (id : ℤ). Holds (bytes_of (image (Segment id (pos (base_of old from))))) (from - base_of old from) (stored f)) (sym recording) stand.0),
      frames_based image old new fs (from + aligned_length f) to recording (λ q behind. same q (omega (arith, behind))) stand.1,
    )

file_based : (old new : Layout) (q : ℕ) → new.recording ≡ old.recording
    → base_of new q ≡ base_of old q → file_of new q ≡ file_of old q
file_based old new q recording base = ap (λ (id : ℤ). Segment id (pos (base_of new q))) recording ∙ ap (λ (b : ℕ). Segment old.recording (pos b)) base

lie_based : (this : FileId) (old new : Layout) (fs : List Frame) (from : ℕ) → new.recording ≡ old.recording → ((q : ℕ) → from ≤ q → base_of new q ≡ base_of old q) → LieIn this old from fs → LieIn this new from fs
lie_based this old new [] from recording same lie = tt
lie_based this old new (f ∷ fs) from recording same lie =
    (file_based old new from recording (same from (omega arith)) ∙ lie.0, lie_based this old new fs (from + aligned_length f) recording (λ q behind. same q (omega (arith, behind))) lie.1)

-- a purge's position is recorded
is_within : (r : Recording) (p : ℤ) (later : IsLater r p)
    → is_later_base p (registration_of r) ≡ true → later.at ≤ last_of r
unfolding is_later_base
is_within r p later base = by p later.at later.is base
  where
    by : (z : ℤ) (n : ℕ) → z ≡ pos n → is_later_base z (registration_of r) ≡ true → n ≤ last_of r
    by (pos q) n is base =
        let first : (nat_lt (unsigned_abs r.descriptor.start_position) q && int_le (pos q) (recorded_position r) ≡ true) × (_ ≡ true) = both base in
        let second : (nat_lt (unsigned_abs r.descriptor.start_position) q ≡ true) × (int_le (pos q) (recorded_position r) ≡ true) = both first.0 in
        let low : pos q ≤ℤ recorded_position r = search (rules, second.1) in
        omega (arith, ints, low, is)
    by (negsuc q) n is base = absurd (true≢false (sym base))

stands_purged : (image : DiskImage) (r : Recording) (position : ℤ) (fs : List Frame) → IsKept r → is_later_base position (registration_of r) ≡ true → Stands image (file_of (layout_of r.descriptor) (last_of r)) r fs
    → Stands image (file_of (layout_of (purged position r).descriptor) (last_of (purged position r))) (purged position r) fs
stands_purged image r position fs kept base stands =
    let old : Layout = layout_of r.descriptor in
    let new : Layout = layout_of (purged position r).descriptor in
    let last : last_of (purged position r) ≡ last_of r = ap unsigned_abs (purged_ends r position kept base) in
    let later : IsLater r position = is_later r position base in
    let behind : later.at ≤ last_of r = is_within r position later base in
    let bases : (q : ℕ) → last_of r ≤ q → base_of new q ≡ base_of old q = λ q from. same_bases r position q kept later (omega (arith, behind, from)) in
    let file : file_of new (last_of r) ≡ file_of old (last_of r) = file_based old new (last_of r) refl (bases (last_of r) (omega arith)) in
    let holds : HoldsFrames image new (last_of r) fs (last_of r + covered fs) = frames_based image old new fs (last_of r) (last_of r + covered fs) refl bases stands.holds in
    let lie : LieIn (file_of new (last_of r)) new (last_of r) fs = subst (λ (this : FileId). LieIn this new (last_of r) fs) (sym file) (lie_based (file_of old (last_of r)) old new fs (last_of r) refl bases stands.lie) in
    record {
      holds = subst (λ (n : ℕ). HoldsFrames image new n fs (n + covered fs)) (sym last) holds;
      lie = subst (λ (n : ℕ). LieIn (file_of new n) new n fs) (sym last) lie;
    }

abbrev pub StandsAt : DiskImage → List Frame → Recording → Type 0
StandsAt image fs r = Stands image (file_of (layout_of r.descriptor) (last_of r)) r fs

stands_later : (image : DiskImage) (r new : Recording) (fs : List Frame) → IsKept r
    → IsSameOrLater r new → StandsAt image fs r → StandsAt image fs new
stands_later image r new fs kept (inl same) stands = subst (StandsAt image fs) (sym same) stands
stands_later image r new fs kept (inr (position, base, is)) stands = subst (StandsAt image fs) (sym is) (stands_purged image r position fs kept base stands)

one_recording : (x y : Recording) → Some x ≡ Some y → x ≡ y
one_recording x y is = cc

-- a session that stays open
pub stands_open : (image : DiskImage) (a b : Archive) (s : RecorderSession) → IsConsistent a → StaysOpen a b.state s → b.blocks s.number ≡ a.blocks s.number → StandsBehind image a s → StandsBehind image b s
stands_open image a b s consistent stays same stands = λ r there.
    let writing : IsWriting a.desk.register s = each_found session_number (IsWriting a.desk.register) s.number a.desk.callers.sessions s consistent.seats.sessions.writing stays.was in
    let registered = is_there (registration_in a.desk.register s.recording) is_active writing in
    let known = known_recording a s.recording registered.0 consistent.agrees registered.1 in
    let old : Recording = known.recording in
    let on = stays.stays old known.found in
    let kept : IsKept old = each_found id_of IsKept s.recording a.state.recordings old consistent.well.kept known.found in
    let new_is : on.new ≡ r = one_recording on.new r (sym on.found ∙ there) in
    let frames : StandsAt image (frames_of (a.blocks s.number)) old = stands old known.found in
    let here : StandsAt image (frames_of (a.blocks s.number)) r = subst (StandsAt image (frames_of (a.blocks s.number))) new_is (stands_later image old on.new (frames_of (a.blocks s.number)) kept on.is frames) in
    subst (λ (bs : List Block). StandsAt image (frames_of bs) r) (sym same) here

-- one that has not written stands wherever it is
pub stands_either : (image : DiskImage) (a b : Archive) (s : RecorderSession) → IsConsistent a → StandsBehind image a s → (StaysOpen a b.state s × (b.blocks s.number ≡ a.blocks s.number)) ⊎ (b.blocks s.number ≡ []) → StandsBehind image b s
stands_either image a b s consistent stands (inl (stays, same)) = stands_open image a b s consistent stays same stands
stands_either image a b s consistent stands (inr none) = stands_nothing image b s none
