-- What is shown in an image where a recording's frames stand from a position on is what is recorded.
use Rattle.std.proofs.Common.{◌≡◌, ◌∙◌, ◌+◌, ◌-◌, ◌<◌, ◌+ℤ◌, ◌≤ℤ◌, ◌++◌, ◌&&◌, sym, ap, subst, refl, ℕ, ℤ, pos, true, List, [], ◌∷◌, filter, take, arith}
use Rattle.std.proofs.lemmas.Int.{ints}
use Rattle.std.specs.Prelude.{int_le, unsigned_abs}
use Rattle.std.specs.Ordering.{int_eq}
use Rattle.engine_core.proofs.Words.{AreEncodable, DiskImage, Each, Frame, Geometry, HoldsFrames, IsKept, Layout, OpenReplay, PolledFrame, Recording, Registration, aligned_length, base_of, covered, covered-append, first_of, geometry_of, is_boundary, last_of, layout_of, polled, recorded_position, registration_of}
use Rattle.disk_core.specs.DiskImage.{bytes_of}
use Rattle.disk_core.specs.Standing.{Holds}
use Rattle.disk_core.specs.declared.file_id.FileId.TheVariants.{Segment}
use Rattle.frame_core.specs.FrameEncoding.{encoded}
use Rattle.frame_core.specs.Position.{frame_position}
use Rattle.segment_store.specs.Boundary.{IsChain}
use Rattle.segment_store.specs.DamagedFrame.{ShowsFrame, belongs_at, is_at, is_stored}
use Rattle.segment_store.specs.Stored.{HoldsFrame}
use Rattle.replay_core.specs.Poll.{ArePolled, Belong, before}
use Rattle.replay_core.proofs.GivenLemmas.{given, held_shown}
use Rattle.archive_model.specs.Histories.{AreContiguous}
use Rattle.archive_model.specs.Replay.{is_between, placed}
use Rattle.recording_reads.specs.Reading.{GivesShown}
use Rattle.engine_core.specs.Protected.{KeepsFrom, KnowsFrom, StandFrom, frames_from, is_from}
use Rattle.engine_core.proofs.files.RecoveryLemmas.{belong}
use Rattle.engine_core.proofs.protected.FromLemmas.{all_cover, back_from, stand_later}
use Rattle.engine_core.proofs.replays.ReadLemmas.{SplitsAt, between_parts, bounds_edge, placed_take, splits_at}

-- ---- what a reader knows of a recording

-- what was known of it when it was read first, with the position up to which it is recorded now
pub still_known : (p : ℤ) (r new : Recording) → KeepsFrom p r new → KnowsFrom p (record (registration_of r) { recorded = recorded_position new }) new
still_known p r new k = record { id = sym k.id; stream = sym k.stream; geometry = sym k.geometry; recorded = refl; places = λ q from. sym (k.places q from) }

-- from a later position on the frames stand too, and the reader knows the recording too
pub goes_forward : (image : DiskImage) (p q : ℤ) (g : Registration) (r : Recording) → p ≤ℤ q → StandFrom image p r → KnowsFrom p g r → StandFrom image q r × KnowsFrom q g r
goes_forward image p q g r low stand knows = (
  stand_later image p q r low stand,
  record { id = knows.id; stream = knows.stream; geometry = knows.geometry; recorded = knows.recorded; places = λ n from. knows.places n (omega (arith, ints, from, low)) },
)

-- a frame is shown alike where its position has the same base
shows_alike : (image : DiskImage) (old new : Layout) (g : Geometry) (limit : ℤ) (q : ℕ) (f : Frame) → new.recording ≡ old.recording → new.stream_id ≡ old.stream_id → base_of new q ≡ base_of old q → ShowsFrame image new g limit q f → ShowsFrame image old g limit q f
unfolding belongs_at
shows_alike image old new g limit q f recording stream base shows = record {
  encodable = shows.encodable;
  stands = subst (λ (n : ℕ). Holds (bytes_of (image (Segment old.recording (pos n)))) (q - n) (encoded f)) base
      (subst (λ (id : ℤ). Holds (bytes_of (image (Segment id (pos (base_of new q))))) (q - base_of new q) (encoded f)) recording shows.stands);
  belongs = subst (λ (z : ℤ). (is_stored f.kind && int_eq f.stream_id z && is_at q (frame_position g f) && int_le (f.term_offset +ℤ pos (aligned_length f)) g.term_length && int_le (pos (q + aligned_length f)) limit) ≡ true) stream shows.belongs;
}

chain_alike : (image : DiskImage) (old new : Layout) (g : Geometry) (limit p : ℤ) (fs : List Frame) (from to : ℕ) → new.recording ≡ old.recording → new.stream_id ≡ old.stream_id → ((q : ℕ) → p ≤ℤ pos q → base_of new q ≡ base_of old q) → p ≤ℤ pos from
    → IsChain image new g limit from fs to → IsChain image old g limit from fs to
chain_alike image old new g limit p [] from to recording stream places low chain = chain
chain_alike image old new g limit p (f ∷ fs) from to recording stream places low chain = (
  shows_alike image old new g limit from f recording stream (places from low) chain.0,
  chain_alike image old new g limit p fs (from + aligned_length f) to recording stream places (omega (arith, ints, low)) chain.1,
)

-- ---- the recorded frames from an edge on

-- frames that stand, each in its place, stand one after another
placed_stand : (image : DiskImage) (l : Layout) (fs : List Frame) (from : ℕ) → Each (λ (f : PolledFrame). HoldsFrame image l (unsigned_abs f.position) f.frame) (placed (pos from) fs) → HoldsFrames image l from fs (from + covered fs)
placed_stand image l [] from stand = omega arith
placed_stand image l (f ∷ fs) from stand =
    let same : (from + aligned_length f) + covered fs ≡ from + covered (f ∷ fs) = omega arith in
    (stand.0, subst (HoldsFrames image l (from + aligned_length f) fs) same (placed_stand image l fs (from + aligned_length f) stand.1))

belong_back : (l : Layout) (g : Geometry) (limit : ℤ) (front back : List Frame) (from : ℕ) → Belong l g limit from (front ++ back) → Belong l g limit (from + covered front) back
belong_back l g limit [] back from all = subst (λ (n : ℕ). Belong l g limit n back) (omega arith) all
belong_back l g limit (f ∷ fs) back from all =
    let same : (from + aligned_length f) + covered fs ≡ from + covered (f ∷ fs) = omega arith in
    subst (λ (n : ℕ). Belong l g limit n back) same (belong_back l g limit fs back (from + aligned_length f) all.1)

encodable_back : (front back : List Frame) → AreEncodable (front ++ back) → AreEncodable back
encodable_back [] back all = all
encodable_back (f ∷ fs) back all = encodable_back fs back all.1

cover_front : (front back : List Frame) → Each (λ (f : Frame). 0 < aligned_length f) (front ++ back) → Each (λ (f : Frame). 0 < aligned_length f) front
cover_front [] back all = tt
cover_front (f ∷ fs) back all = (all.0, cover_front fs back all.1)

module _ (image : DiskImage) (r : Recording) (kept : IsKept r) where
  abbrev lay : Layout
  lay = layout_of r.descriptor

  abbrev geo : Geometry
  geo = geometry_of r.descriptor

  start_is : pos (first_of r) ≡ r.descriptor.start_position
  start_is = let low = kept.start in omega (arith, ints, low)

  last_is : recorded_position r ≡ pos (last_of r)
  last_is = let low = kept.start in omega (arith, ints, low)

  covers_front : (q : ℕ) (parts : SplitsAt q (first_of r) r.frames) → Each (λ (f : Frame). 0 < aligned_length f) parts.front
  covers_front q parts = cover_front parts.front parts.back (subst (Each (λ (f : Frame). 0 < aligned_length f)) parts.is (all_cover r.descriptor.stream_id r.frames kept.of_stream kept.encodable))

  back_belongs : (q : ℕ) (parts : SplitsAt q (first_of r) r.frames) → Belong lay geo (recorded_position r) q parts.back
  back_belongs q parts =
      let contiguous : AreContiguous geo (pos (first_of r)) r.frames = subst (λ (z : ℤ). AreContiguous geo z r.frames) (sym start_is) kept.contiguous in
      let all : Belong lay geo (recorded_position r) (first_of r) r.frames = belong r.descriptor (recorded_position r) r.frames (first_of r) contiguous kept.of_stream (let start = start_is in omega (arith, ints, start)) in
      subst (λ (n : ℕ). Belong lay geo (recorded_position r) n parts.back) (sym parts.ends)
      (belong_back lay geo (recorded_position r) parts.front parts.back (first_of r) (subst (Belong lay geo (recorded_position r) (first_of r)) parts.is all))

  -- the frames from an edge on, each with where it begins
  placed_back : (q : ℕ) (parts : SplitsAt q (first_of r) r.frames) → frames_from (pos q) r ≡ placed (pos q) parts.back
  placed_back q parts =
      let cover = covers_front q parts in
      let here : pos (first_of r) +ℤ pos (covered parts.front) ≡ pos q = (let ends = parts.ends in omega (arith, ints, ends)) in
      let all : frames_from (pos q) r ≡ filter (is_from (pos q)) (placed (pos (first_of r)) (parts.front ++ parts.back)) =
      ap (λ (z : ℤ). filter (is_from (pos q)) (placed z r.frames)) (sym start_is) ∙ ap (λ (fs : List Frame). filter (is_from (pos q)) (placed (pos (first_of r)) fs)) parts.is in
      all ∙ subst (λ (z : ℤ). filter (is_from z) (placed (pos (first_of r)) (parts.front ++ parts.back)) ≡ placed z parts.back) here (back_from (pos (first_of r)) parts.front parts.back cover)

  back_ends : (q : ℕ) (parts : SplitsAt q (first_of r) r.frames) → q + covered parts.back ≡ last_of r
  back_ends q parts =
      let sums : covered r.frames ≡ covered parts.front + covered parts.back = ap covered parts.is ∙ covered-append parts.front parts.back in
      let start = start_is in
      let last = last_is in
      let ends = parts.ends in
      omega (arith, ints, sums, start, last, ends)

  -- they are shown where they stand
  back_shown : (q : ℕ) (parts : SplitsAt q (first_of r) r.frames) → StandFrom image (pos q) r → IsChain image lay geo (recorded_position r) q parts.back (last_of r)
  back_shown q parts stand =
      let each = subst (Each (λ (f : PolledFrame). HoldsFrame image lay (unsigned_abs f.position) f.frame)) (placed_back q parts) stand in
      let holds : HoldsFrames image lay q parts.back (last_of r) = subst (HoldsFrames image lay q parts.back) (back_ends q parts) (placed_stand image lay parts.back q each) in
      held_shown image lay geo (recorded_position r) parts.back q (last_of r) holds (encodable_back parts.front parts.back (subst AreEncodable parts.is kept.encodable)) (back_belongs q parts)

  -- ---- polls

  given_back : (q end most : ℕ) (bound : ℤ) (frames : List Frame) (parts : SplitsAt q (first_of r) r.frames) → StandFrom image (pos q) r → ArePolled image lay geo (recorded_position r) bound most q frames end → frames ≡ take most (before bound q parts.back)
  given_back q end most bound frames parts stand polls =
      let back = subst (λ (z : ℤ). IsChain image lay geo z q parts.back (last_of r)) last_is (back_shown q parts stand) in
      let these = subst (λ (z : ℤ). ArePolled image lay geo z bound most q frames end) last_is polls in
      given image lay geo bound frames parts.back most q end (last_of r) back these.stand these.before these.few these.all

  polled_back : (next bound : ℤ) (most end : ℕ) (frames : List Frame) → is_boundary next r ≡ true → StandFrom image next r → ArePolled image lay geo (recorded_position r) bound most (unsigned_abs next) frames end → placed next frames ≡ polled next bound most r
  polled_back next bound most end frames at stand polls =
      let edge = bounds_edge next r.descriptor.start_position r.frames kept.start at in
      let q : ℕ = edge.0 in
      let parts = splits_at q (first_of r) r.frames edge.2 in
      let from : unsigned_abs next ≡ q = ap unsigned_abs edge.1 in
      let here : StandFrom image (pos q) r = subst (λ (z : ℤ). StandFrom image z r) edge.1 stand in
      let these : frames ≡ take most (before bound q parts.back) = given_back q end most bound frames parts here (subst (λ (n : ℕ). ArePolled image lay geo (recorded_position r) bound most n frames end) from polls) in
      let between : filter (is_between (pos q) bound) (placed (pos (first_of r)) (parts.front ++ parts.back)) ≡ placed (pos q) (before bound q parts.back) =
      between_parts bound parts.front parts.back (first_of r) q parts.ends (covers_front q parts) in
      let all : filter (is_between (pos q) bound) (placed r.descriptor.start_position r.frames) ≡ placed (pos q) (before bound q parts.back) =
      ap (λ (fs : List Frame). filter (is_between (pos q) bound) (placed r.descriptor.start_position fs)) parts.is
      ∙ ap (λ (z : ℤ). filter (is_between (pos q) bound) (placed z (parts.front ++ parts.back))) (sym start_is) ∙ between in
      let some : polled (pos q) bound most r ≡ placed (pos q) frames =
      ap (take most) all ∙ placed_take most q (before bound q parts.back) ∙ ap (placed (pos q)) (sym these) in
      subst (λ (z : ℤ). placed z frames ≡ polled z bound most r) (sym edge.1) (sym some)

-- what is shown to a reader who knows the recording is what is recorded
pub read_recorded : (image : DiskImage) (g : Registration) (r : Recording) (replay : OpenReplay) (most : ℤ) (frames : List PolledFrame) (end : ℕ) → IsKept r → is_boundary replay.next r ≡ true → StandFrom image replay.next r → KnowsFrom replay.next g r
    → GivesShown image g replay most frames end → frames ≡ polled replay.next replay.bound (unsigned_abs most) r
read_recorded image g r replay most frames end kept at stand knows gives =
    let edge = bounds_edge replay.next r.descriptor.start_position r.frames kept.start at in
    let low : replay.next ≤ℤ pos (unsigned_abs replay.next) = (let is = edge.1 in omega (arith, ints, is)) in
    let as_recorded : ArePolled image (layout_of g.descriptor) (geometry_of r.descriptor) (recorded_position r) replay.bound (unsigned_abs most) (unsigned_abs replay.next) gives.given end =
    subst (λ (x : Geometry). ArePolled image (layout_of g.descriptor) x (recorded_position r) replay.bound (unsigned_abs most) (unsigned_abs replay.next) gives.given end) knows.geometry
    (subst (λ (z : ℤ). ArePolled image (layout_of g.descriptor) (geometry_of g.descriptor) z replay.bound (unsigned_abs most) (unsigned_abs replay.next) gives.given end) knows.recorded gives.polled) in
    let polls : ArePolled image (layout_of r.descriptor) (geometry_of r.descriptor) (recorded_position r) replay.bound (unsigned_abs most) (unsigned_abs replay.next) gives.given end = record {
      stand = chain_alike image (layout_of r.descriptor) (layout_of g.descriptor) (geometry_of r.descriptor) (recorded_position r) replay.next gives.given (unsigned_abs replay.next) end knows.id knows.stream knows.places low as_recorded.stand;
      before = as_recorded.before;
      few = as_recorded.few;
      all = as_recorded.all;
    } in
    gives.placed ∙ polled_back image r kept replay.next replay.bound (unsigned_abs most) end gives.given at stand polls
