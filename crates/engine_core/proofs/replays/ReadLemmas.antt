-- What is read of a recording whose frames stand in an image.
use Rattle.std.proofs.Common.{◌≡◌, ◌∙◌, ◌⊎◌, inl, inr, sym, ap, subst, refl, ℕ, zero, suc, ℤ, pos, negsuc, ◌+◌, ◌-◌, ◌*◌, ◌/◌, ◌%◌, ◌+ℤ◌, ◌*ℤ◌, ◌<◌, ◌≤◌, ◌<ℤ◌, ◌≤ℤ◌, ◌||◌, Bool, true, false, true≢false, List, [], ◌∷◌, ◌++◌, length, take, filter, arith}
use Rattle.std.proofs.lemmas.Int.{ints}
use Rattle.std.proofs.lemmas.Bool.{or_left, or_right}
use Rattle.std.proofs.lemmas.Bool.Decides.{nat_tests, Decides-int_eq}
use Rattle.std.specs.Prelude.{IsTrue, nat_le, nat_lt, int_lt, unsigned_abs, if◌then◌else◌}
use Rattle.std.specs.Ordering.{int_eq}
use Rattle.std.proofs.Math.Nat.{div-mul-le_self, le-max_left, max-eq_left, max-eq_right, max-le, mod-eq-sub-div-mul, mul-le-mul_right}
use Rattle.engine_core.proofs.Words.{Damaged, DeviceFault, DiskImage, Each, Frame, Geometry, HoldsRecording, IsKept, IsOutside, Layout, Life, NoMemory, OpenReplay, PolledFrame, Recording, RecordingIsRead, Refusal, RefusesBoundaryIn, RefusesCount, RefusesPoll, Registration, TellsBoundaryIn, aligned_length, begins_frame, covered, covered-append, first_of, geometry_of, is_boundary, is_end, last_of, layout_of, polled, reads, recorded_position, registration_of}
use Rattle.frame_core.specs.Position.{HasPosition, terms_since}
use Rattle.segment_store.specs.Boundary.{BreaksAt, IsChain, IsReached}
use Rattle.segment_store.specs.DamagedFrame.{IsDamaged}
use Rattle.segment_store.proofs.ChainLemmas.{chain_rises}
use Rattle.segment_store.proofs.DurableLemmas.{one_shown}
use Rattle.segment_store.proofs.ReadLemmas.{belongs_ends}
use Rattle.replay_core.specs.Poll.{ArePolled, before}
use Rattle.replay_core.proofs.GivenLemmas.{covers, given, goes_on}
use Rattle.archive_model.specs.Replay.{is_between, placed}
use Rattle.archive_model.specs.Histories.{AreContiguous}
use Rattle.archive_model.proofs.CutLemmas.{IsEdge, edge_begins, edge_end, edge_start}
use Rattle.archive_model.proofs.ReplayLemmas.{begins_at, past_bound}
use Rattle.recording_reads.specs.Reading.{BreaksIn, GivesShown, HasFrames, IsBoundaryIn, term_start}
use Rattle.engine_core.proofs.files.RecoveryLemmas.{one_chain, shown}

-- ---- edges: positions where a frame begins or the last one ends

-- frames before an edge, and those from it on
pub record SplitsAt (p at : ℕ) (fs : List Frame) : Type 0 where
  pub front : List Frame
  pub back : List Frame
  pub is : fs ≡ front ++ back
  pub ends : p ≡ at + covered front

pub splits_at : (p at : ℕ) (fs : List Frame) → IsEdge p at fs → SplitsAt p at fs
splits_at p at [] edge = record { front = []; back = []; is = refl; ends = omega arith }
splits_at p at (f ∷ fs) (inl is) = record { front = []; back = f ∷ fs; is = refl; ends = omega arith }
splits_at p at (f ∷ fs) (inr edge) =
    let rest = splits_at p (at + aligned_length f) fs edge in
    let ends = rest.ends in record { front = f ∷ rest.front; back = rest.back; is = ap (λ (xs : List Frame). f ∷ xs) rest.is; ends = omega arith }

-- an edge of the frames behind others is an edge of all
pub edge_behind : (p at : ℕ) (front back : List Frame) → IsEdge p (at + covered front) back
    → IsEdge p at (front ++ back)
edge_behind p at [] back edge = subst (λ (n : ℕ). IsEdge p n back) (omega arith) edge
edge_behind p at (f ∷ fs) back edge =
    let same : at + covered (f ∷ fs) ≡ (at + aligned_length f) + covered fs = omega arith in inr (edge_behind p (at + aligned_length f) fs back (subst (λ (n : ℕ). IsEdge p n back) same edge))

none_below : (n at : ℕ) (fs : List Frame) → begins_at (negsuc n) (placed (pos at) fs) ≡ false
none_below n at [] = refl
none_below n at (f ∷ fs) = none_below n (at + aligned_length f) fs

-- where a frame begins is an edge
begun_edge : (p : ℤ) (at : ℕ) (fs : List Frame) → begins_at p (placed (pos at) fs) ≡ true
    → (q : ℕ) × (p ≡ pos q) × IsEdge q at fs
begun_edge (pos q) at fs begins = (q, refl, edge_begins q at fs begins)
begun_edge (negsuc n) at fs begins = absurd (true≢false (sym begins ∙ none_below n at fs))

-- at an edge a frame begins, or it is the end
edge_begun : (p at : ℕ) (fs : List Frame) → IsEdge p at fs
    → (begins_at (pos p) (placed (pos at) fs) ≡ true) ⊎ (p ≡ at + covered fs)
edge_begun p at [] edge = inr (omega arith)
edge_begun p at (f ∷ fs) (inl is) = inl (or_left (int_eq (pos p) (pos at)) _ ((Decides-int_eq (pos p) (pos at)).1 (ap pos is)))
edge_begun p at (f ∷ fs) (inr edge) = elim (edge_begun p (at + aligned_length f) fs edge) [
  | inl begins ↦ inl (or_right (int_eq (pos p) (pos at)) _ begins)
  | inr ends ↦ inr (omega (arith, ends))
]

-- a position is a boundary by the start, the frames and the end
abbrev pub bounds : ℤ → ℤ → List Frame → Bool
bounds p start fs = int_eq p start || int_eq p (start +ℤ pos (covered fs)) || begins_at p (placed start fs)

either : {a b : Bool} → a || b ≡ true → (a ≡ true) ⊎ (b ≡ true)
either {a = true} {b = b} h = inl refl
either {a = false} {b = b} h = inr h

-- boundaries are edges
pub bounds_edge : (p start : ℤ) (fs : List Frame) → pos 0 ≤ℤ start → bounds p start fs ≡ true
    → (q : ℕ) × (p ≡ pos q) × IsEdge q (unsigned_abs start) fs
bounds_edge p (negsuc n) fs low is = absurd (omega (arith, ints))
bounds_edge p (pos at) fs low is = elim (either is) [
  | inl ends ↦ elim (either ends) [
    | inl first ↦ (at, (Decides-int_eq p (pos at)).0 first, edge_start at at fs refl)
    | inr last ↦ (at + covered fs, (Decides-int_eq p (pos (at + covered fs))).0 last, edge_end (at + covered fs) at fs refl)
  ]
  | inr begins ↦ begun_edge p at fs begins
]

-- edges are boundaries
pub edge_bounds : (p : ℕ) (start : ℤ) (fs : List Frame) → pos 0 ≤ℤ start
    → IsEdge p (unsigned_abs start) fs → bounds (pos p) start fs ≡ true
edge_bounds p (negsuc n) fs low edge = absurd (omega (arith, ints))
edge_bounds p (pos at) fs low edge = elim (edge_begun p at fs edge) [
  | inl begins ↦ or_right (int_eq (pos p) (pos at) || int_eq (pos p) (pos (at + covered fs))) _ begins
  | inr ends ↦ or_left (int_eq (pos p) (pos at) || int_eq (pos p) (pos (at + covered fs))) _
      (or_right (int_eq (pos p) (pos at)) _ ((Decides-int_eq (pos p) (pos (at + covered fs))).1 (ap pos ends)))
]

-- an edge at or behind where some frames end is one of the others
edge_back : (p at : ℕ) (front back : List Frame) → Each (λ (f : Frame). 0 < aligned_length f) front → at + covered front ≤ p → IsEdge p at (front ++ back) → IsEdge p (at + covered front) back
edge_back p at [] back cover past edge = subst (λ (n : ℕ). IsEdge p n back) (omega arith) edge
edge_back p at (f ∷ fs) back cover past (inl is) = absurd (omega (arith, is, past, cover.0))
edge_back p at (f ∷ fs) back cover past (inr edge) =
    let same : (at + aligned_length f) + covered fs ≡ at + covered (f ∷ fs) = omega arith in
    subst (λ (n : ℕ). IsEdge p n back) same (edge_back p (at + aligned_length f) fs back cover.1 (omega (arith, past)) edge)

-- a frame inside its term that begins before a multiple of the term length ends at or before it
ends_before : (t s o at k size : ℕ) → at ≡ s * t + o → o + size ≤ t → at < k * t → at + size ≤ k * t
ends_before t s o at k size sum inside before = by (nat_lt s k) refl
  where
    by : (b : Bool) → nat_lt s k ≡ b → at + size ≤ k * t
    by true e = let next : s + 1 ≤ k = grind (arith, nat_tests) in let more = mul-le-mul_right t next in let one : (s + 1) * t ≡ s * t + t = omega arith in omega arith
    by false e = let low : k ≤ s = grind (arith, nat_tests) in let less = mul-le-mul_right t low in absurd (omega arith)

term_ends : (g : Geometry) (term offset : ℤ) (at k size : ℕ) → HasPosition g term offset (pos at) → (offset +ℤ pos size) ≤ℤ g.term_length → at < k * unsigned_abs g.term_length → at + size ≤ k * unsigned_abs g.term_length
term_ends g term offset at k size has inside before = by (terms_since g term) offset g.term_length has.since has.low has.high has.sum inside before
  where
    by : (since offset length : ℤ) → pos 0 ≤ℤ since → pos 0 ≤ℤ offset → offset <ℤ length → pos at ≡ since *ℤ length +ℤ offset → (offset +ℤ pos size) ≤ℤ length → at < k * unsigned_abs length → at + size ≤ k * unsigned_abs length
    by (negsuc s) o t low positive high sum within before = absurd (omega (arith, ints))
    by (pos s) (negsuc o) t low positive high sum within before = absurd (omega (arith, ints))
    by (pos s) (pos o) (negsuc t) low positive high sum within before = absurd (omega (arith, ints))
    by (pos s) (pos o) (pos t) low positive high sum within before =
        let placed_at : pos at ≡ pos (s * t + o) = sum in
        let within_term : pos (o + size) ≤ℤ pos t = within in ends_before t s o at k size (omega (arith, ints)) (omega (arith, ints)) before

-- each multiple of the term length among contiguous frames is an edge of them
term_edge : (g : Geometry) (k at : ℕ) (fs : List Frame) → AreContiguous g (pos at) fs → at ≤ k * unsigned_abs g.term_length → k * unsigned_abs g.term_length ≤ at + covered fs → IsEdge (k * unsigned_abs g.term_length) at fs
term_edge g k at [] contiguous low high = edge_start (k * unsigned_abs g.term_length) at [] (omega (arith, low, high))
term_edge g k at (f ∷ fs) contiguous low high = by (nat_lt at (k * unsigned_abs g.term_length)) refl (term_edge g k (at + aligned_length f) fs contiguous.2)
  where
    by : (b : Bool) → nat_lt at (k * unsigned_abs g.term_length) ≡ b
        → (at + aligned_length f ≤ k * unsigned_abs g.term_length → k * unsigned_abs g.term_length ≤ (at + aligned_length f) + covered fs → IsEdge (k * unsigned_abs g.term_length) (at + aligned_length f) fs)
        → IsEdge (k * unsigned_abs g.term_length) at (f ∷ fs)
    by true e rest =
        let before : at < k * unsigned_abs g.term_length = grind (arith, nat_tests) in
        inr (rest (term_ends g f.term_id f.term_offset at k (aligned_length f) contiguous.0 contiguous.1 before) (omega (arith, high)))
    by false e rest =
        let not_before : k * unsigned_abs g.term_length ≤ at = grind (arith, nat_tests) in inl (omega (arith, low, not_before))

-- ---- chains of shown frames

module _ (image : DiskImage) (l : Layout) (g : Geometry) (limit : ℤ) where
  -- where a chain ends
  pub chain_ends : (fs : List Frame) (from to : ℕ) → IsChain image l g limit from fs to
      → to ≡ from + covered fs
  chain_ends [] from to is = omega (arith, is)
  chain_ends (f ∷ fs) from to is = omega (arith, chain_ends fs (from + aligned_length f) to is.1)

  -- where shown frames end is an edge of all of them
  pub chain_edge : (fs hs : List Frame) (from end to : ℕ) → limit ≤ℤ pos to → IsChain image l g limit from fs end → IsChain image l g limit from hs to → IsEdge end from hs
  chain_edge [] hs from end to last this all = edge_start end from hs (sym this)
  chain_edge (f ∷ fs) [] from end to last this all = absurd (omega (arith, ints, last, all, covers image l g limit from f this.0, belongs_ends l g from limit f this.0.belongs))
  chain_edge (f ∷ fs) (h ∷ hs) from end to last this all =
      let same : f ≡ h = one_shown image l g limit from f h this.0 all.0 in
      let onwards : IsChain image l g limit (from + aligned_length f) hs to = subst (λ (n : ℕ). IsChain image l g limit (from + n) hs to) (sym (ap aligned_length same)) all.1 in
      inr (subst (λ (n : ℕ). IsEdge end (from + n) hs) (ap aligned_length same) (chain_edge fs hs (from + aligned_length f) end to last this.1 onwards))

  -- a chain up to where its front ends, and from there on

  pub chain_front : (front back : List Frame) (from to : ℕ) → IsChain image l g limit from (front ++ back) to → IsChain image l g limit from front (from + covered front)
  chain_front [] back from to is = omega arith
  chain_front (f ∷ fs) back from to is =
      let same : (from + aligned_length f) + covered fs ≡ from + covered (f ∷ fs) = omega arith in
      (is.0, subst (λ (n : ℕ). IsChain image l g limit (from + aligned_length f) fs n) same (chain_front fs back (from + aligned_length f) to is.1))

  pub chain_back : (front back : List Frame) (from to : ℕ) → IsChain image l g limit from (front ++ back) to → IsChain image l g limit (from + covered front) back to
  chain_back [] back from to is = subst (λ (n : ℕ). IsChain image l g limit n back to) (omega arith) is
  chain_back (f ∷ fs) back from to is =
      let same : (from + aligned_length f) + covered fs ≡ from + covered (f ∷ fs) = omega arith in
      subst (λ (n : ℕ). IsChain image l g limit n back to) same (chain_back fs back (from + aligned_length f) to is.1)

  -- each frame of it covers some bytes
  pub all_cover : (fs : List Frame) (from to : ℕ) → IsChain image l g limit from fs to
      → Each (λ (f : Frame). 0 < aligned_length f) fs
  all_cover [] from to is = tt
  all_cover (f ∷ fs) from to is = (covers image l g limit from f is.0, all_cover fs (from + aligned_length f) to is.1)

-- ---- frames between two positions

-- of frames from a position on, those between it and a bound are the first of them
between_back : (bound : ℤ) (back : List Frame) (p at : ℕ) → p ≤ at → filter (is_between (pos p) bound) (placed (pos at) back) ≡ placed (pos at) (before bound at back)
between_back bound [] p at low = refl
between_back bound (f ∷ fs) p at low = by (int_lt (pos at) bound) refl (between_back bound fs p (at + aligned_length f) (omega arith))
  where
    by : (b : Bool) → int_lt (pos at) bound ≡ b → filter (is_between (pos p) bound) (placed (pos (at + aligned_length f)) fs) ≡ placed (pos (at + aligned_length f)) (before bound (at + aligned_length f) fs)
        → filter (is_between (pos p) bound) (placed (pos at) (f ∷ fs)) ≡ placed (pos at) (if b then f ∷ before bound (at + aligned_length f) fs else [])
    by true is rest =
        let here : nat_le p at ≡ true = grind (arith, nat_tests) in
        rw (here, is) (ap (λ (xs : List PolledFrame). record { position = pos at; frame = f } ∷ xs) rest)
    by false is rest = past_bound (pos p) bound at 0 (f ∷ fs) is

-- frames before the position are not between
pub between_parts : (bound : ℤ) (front back : List Frame) (at q : ℕ) → q ≡ at + covered front
    → Each (λ (f : Frame). 0 < aligned_length f) front
    → filter (is_between (pos q) bound) (placed (pos at) (front ++ back)) ≡ placed (pos q) (before bound q back)
between_parts bound [] back at q is cover =
    let same : q ≡ at = omega arith in
    subst (λ (n : ℕ). filter (is_between (pos n) bound) (placed (pos at) back) ≡ placed (pos n) (before bound n back)) (sym same) (between_back bound back at at (omega arith))
between_parts bound (f ∷ fs) back at q is cover =
    let past : nat_le q at ≡ false = (let some = cover.0 in grind (arith, nat_tests)) in
    rw past (between_parts bound fs back (at + aligned_length f) q (omega arith) cover.1)

pub placed_take : (count at : ℕ) (fs : List Frame)
    → take count (placed (pos at) fs) ≡ placed (pos at) (take count fs)
placed_take zero at fs = refl
placed_take (suc n) at [] = refl
placed_take (suc n) at (f ∷ fs) = ap (λ (xs : List PolledFrame). record { position = pos at; frame = f } ∷ xs) (placed_take n (at + aligned_length f) fs)

-- ---- a recording whose frames stand

module _ (image : DiskImage) (r : Recording) (kept : IsKept r) (stands : HoldsRecording image r) where
  abbrev lay : Layout
  lay = layout_of r.descriptor

  abbrev geo : Geometry
  geo = geometry_of r.descriptor

  all_shown : IsChain image lay geo (recorded_position r) (first_of r) r.frames (last_of r)
  all_shown = shown image r kept stands

  start_is : pos (first_of r) ≡ r.descriptor.start_position
  start_is = omega (arith, ints, kept.start)

  last_is : recorded_position r ≡ pos (last_of r)
  last_is = omega (arith, ints, kept.start)

  pub ends_at : last_of r ≡ first_of r + covered r.frames
  ends_at = chain_ends image lay geo (recorded_position r) r.frames (first_of r) (last_of r) all_shown

  within_last : recorded_position r ≤ℤ pos (last_of r)
  within_last = omega (arith, ints, last_is)

  -- up to where frames are shown, an edge of the recording lies
  pub reached_edge : (fs : List Frame) (end : ℕ) → IsChain image lay geo (recorded_position r) (first_of r) fs end → IsEdge end (first_of r) r.frames
  reached_edge fs end chain = chain_edge image lay geo (recorded_position r) fs r.frames (first_of r) end (last_of r) within_last chain all_shown

  -- an edge is a boundary
  pub edge_boundary : (p : ℕ) → IsEdge p (first_of r) r.frames → is_boundary (pos p) r ≡ true
  edge_boundary p edge = edge_bounds p r.descriptor.start_position r.frames kept.start edge

  pub boundary_edge : (p : ℤ) → is_boundary p r ≡ true
      → (q : ℕ) × (p ≡ pos q) × IsEdge q (first_of r) r.frames
  boundary_edge p is = bounds_edge p r.descriptor.start_position r.frames kept.start is

  -- nowhere before the recorded position do they break off
  pub none_broken : (frames : List Frame) (from : ℕ) (held : List Frame) (at : ℕ) → IsChain image lay geo (recorded_position r) from held (last_of r) → IsChain image lay geo (recorded_position r) from frames at
      → at < last_of r → IsDamaged image lay geo (recorded_position r) at → ⊥
  none_broken frames from held at all these before damaged =
      let next = goes_on image lay geo (recorded_position r) frames held from at (last_of r) all these before in damaged next.0 next.1

  -- ---- where frames begin

  not_last : (p : ℕ) → is_end (pos p) (registration_of r) ≡ false
      → p ≡ first_of r + covered r.frames → ⊥
  not_last p inside is =
      let at : pos p ≡ recorded_position r = omega (arith, ints, is, start_is) in
      true≢false (sym (or_right (int_eq (pos p) r.descriptor.start_position) _ ((Decides-int_eq (pos p) (recorded_position r)).1 at)) ∙ inside)

  begins : (p : ℕ) → IsEdge p (first_of r) r.frames → is_end (pos p) (registration_of r) ≡ false
      → begins_frame (pos p) r ≡ true
  begins p edge inside = elim (edge_begun p (first_of r) r.frames edge) [
    | inl begun ↦ subst (λ (z : ℤ). begins_at (pos p) (placed z r.frames) ≡ true) start_is begun
    | inr ends ↦ absurd (not_last p inside ends)
  ]

  -- the frames from a boundary on
  pub back_shown : (q : ℕ) (parts : SplitsAt q (first_of r) r.frames)
      → IsChain image lay geo (recorded_position r) q parts.back (last_of r)
  back_shown q parts =
      let chain : IsChain image lay geo (recorded_position r) (first_of r) (parts.front ++ parts.back) (last_of r) =
      subst (λ (fs : List Frame). IsChain image lay geo (recorded_position r) (first_of r) fs (last_of r)) parts.is all_shown in
      subst (λ (n : ℕ). IsChain image lay geo (recorded_position r) n parts.back (last_of r)) (sym parts.ends)
      (chain_back image lay geo (recorded_position r) parts.front parts.back (first_of r) (last_of r) chain)

  front_covers : (q : ℕ) (parts : SplitsAt q (first_of r) r.frames)
      → Each (λ (f : Frame). 0 < aligned_length f) parts.front
  front_covers q parts =
      let chain : IsChain image lay geo (recorded_position r) (first_of r) (parts.front ++ parts.back) (last_of r) =
      subst (λ (fs : List Frame). IsChain image lay geo (recorded_position r) (first_of r) fs (last_of r)) parts.is all_shown in
      all_cover image lay geo (recorded_position r) parts.front (first_of r) (first_of r + covered parts.front)
      (chain_front image lay geo (recorded_position r) parts.front parts.back (first_of r) (last_of r) chain)

  -- ---- boundaries, by the frames of a position's term

  abbrev term_of : ℕ → ℕ
  term_of p = term_start r.descriptor p

  -- its beginning is an edge
  term_is_edge : (p : ℕ) → first_of r ≤ p → p ≤ last_of r → IsEdge (term_of p) (first_of r) r.frames
  term_is_edge p from within =
      let t : ℕ = unsigned_abs r.descriptor.term_length in
      let base : p - p % t ≡ p / t * t = (let parts = mod-eq-sub-div-mul p t in let less = div-mul-le_self p t in omega (arith, parts, less)) in
      by (nat_le (first_of r) (p - p % t)) refl base
    where
      contiguous : AreContiguous geo (pos (first_of r)) r.frames
      contiguous = subst (λ (z : ℤ). AreContiguous geo z r.frames) (sym start_is) kept.contiguous

      by : (b : Bool) → nat_le (first_of r) (p - p % unsigned_abs r.descriptor.term_length) ≡ b → p - p % unsigned_abs r.descriptor.term_length ≡ p / unsigned_abs r.descriptor.term_length * unsigned_abs r.descriptor.term_length
          → IsEdge (term_of p) (first_of r) r.frames
      by true e base =
          let low : first_of r ≤ p - p % unsigned_abs r.descriptor.term_length = grind (arith, nat_tests) in
          let here = term_edge geo (p / unsigned_abs r.descriptor.term_length) (first_of r) r.frames contiguous (omega (arith, low, base)) (omega (arith, base, within, ends_at)) in
          subst (λ (n : ℕ). IsEdge n (first_of r) r.frames) (sym (max-eq_right low ∙ base)) here
      by false e base =
          let high : p - p % unsigned_abs r.descriptor.term_length ≤ first_of r = grind (arith, nat_tests) in
          edge_start (term_of p) (first_of r) r.frames (max-eq_left high)

  term_before : (p : ℕ) → first_of r ≤ p → term_of p ≤ p
  term_before p from = max-le from (omega arith)

  -- the frames from there on
  term_parts : (p : ℕ) → first_of r ≤ p → p ≤ last_of r → SplitsAt (term_of p) (first_of r) r.frames
  term_parts p from within = splits_at (term_of p) (first_of r) r.frames (term_is_edge p from within)

  begun_boundary : (p : ℤ) → begins_frame p r ≡ true → IsBoundaryIn image (registration_of r) p
  begun_boundary p begun =
      let edge = begun_edge p (first_of r) r.frames (subst (λ (z : ℤ). begins_at p (placed z r.frames) ≡ true) (sym start_is) begun) in
      let q : ℕ = edge.0 in
      let whole = splits_at q (first_of r) r.frames edge.2 in
      let cover : covered r.frames ≡ covered whole.front + covered whole.back = ap covered whole.is ∙ covered-append whole.front whole.back in
      let low : first_of r ≤ q = omega (arith, whole.ends) in
      let high : q ≤ last_of r = omega (arith, whole.ends, cover, ends_at) in
      let parts = term_parts q low high in
      let behind : IsEdge q (first_of r + covered parts.front) parts.back =
      edge_back q (first_of r) parts.front parts.back (front_covers (term_of q) parts) (omega (arith, parts.ends, term_before q low)) (subst (IsEdge q (first_of r)) parts.is edge.2) in
      let back = splits_at q (term_of q) parts.back (subst (λ (n : ℕ). IsEdge q n parts.back) (sym parts.ends) behind) in
      let chain : IsChain image lay geo (recorded_position r) (term_of q) (back.front ++ back.back) (last_of r) =
      subst (λ (fs : List Frame). IsChain image lay geo (recorded_position r) (term_of q) fs (last_of r)) back.is (back_shown (term_of q) parts) in
      let reached : IsReached image lay geo (recorded_position r) (term_of q) (pos q) = record {
        end = q;
        is = refl;
        reaches = record {
          frames = back.front;
          chain = subst (λ (n : ℕ). IsChain image lay geo (recorded_position r) (term_of q) back.front n) (sym back.ends)
              (chain_front image lay geo (recorded_position r) back.front back.back (term_of q) (last_of r) chain);
        };
      } in
      let here : IsBoundaryIn image (registration_of r) (pos q) = record {
        from_start = omega (arith, ints, low, start_is);
        within = omega (arith, ints, high, last_is);
        reached = inr reached;
      } in
      let same : pos q ≡ p = sym edge.1 in
      subst (λ (z : ℤ). IsBoundaryIn image (registration_of r) z) same here

  -- what the frames of its term reach is an edge
  term_reached : (q : ℕ) → first_of r ≤ q → q ≤ last_of r → IsReached image lay geo (recorded_position r) (term_of q) (pos q) → IsEdge q (first_of r) r.frames
  term_reached q low high reached =
      let parts = term_parts q low high in
      let same : reached.end ≡ q = omega (arith, ints, reached.is) in
      let here : IsEdge reached.end (term_of q) parts.back = chain_edge image lay geo (recorded_position r) reached.reaches.frames parts.back (term_of q) reached.end (last_of r) within_last reached.reaches.chain (back_shown (term_of q) parts) in
      let behind = edge_behind reached.end (first_of r) parts.front parts.back (subst (λ (n : ℕ). IsEdge reached.end n parts.back) parts.ends here) in
      subst (λ (n : ℕ). IsEdge n (first_of r) r.frames) same (subst (IsEdge reached.end (first_of r)) (sym parts.is) behind)

  not_recorded : (p : ℤ) → is_end p (registration_of r) ≡ false → p ≡ recorded_position r → ⊥
  not_recorded p inside is = true≢false (sym (or_right (int_eq p r.descriptor.start_position) _ ((Decides-int_eq p (recorded_position r)).1 is)) ∙ inside)

  pub beginning_told : (p : ℤ) (told : Bool) → is_end p (registration_of r) ≡ false
      → TellsBoundaryIn image (registration_of r) p told → told ≡ begins_frame p r
  beginning_told (negsuc n) true inside tells = absurd (omega (arith, ints, tells.from_start, start_is))
  beginning_told (pos q) true inside tells =
      let low : first_of r ≤ q = omega (arith, ints, tells.from_start, start_is) in
      let high : q ≤ last_of r = omega (arith, ints, tells.within, last_is) in
      elim tells.reached [
        | inl recorded ↦ absurd (not_recorded (pos q) inside recorded)
        | inr reached ↦ sym (begins q (term_reached q low high reached) inside)
      ]
  beginning_told p false inside tells = by (begins_frame p r) refl
    where
      by : (b : Bool) → begins_frame p r ≡ b → false ≡ begins_frame p r
      by true is = absurd (tells.0 (begun_boundary p is))
      by false is = sym is

  breaks_nowhere : (p : ℤ) (at : ℕ) → BreaksAt image lay geo (recorded_position r) p at → ⊥
  breaks_nowhere p at breaks =
      none_broken breaks.reaches.frames (first_of r) r.frames at all_shown breaks.reaches.chain (omega (arith, ints, breaks.before, breaks.within, last_is)) breaks.damaged

  -- the frames of a term break off nowhere
  term_unbroken : (p : ℤ) (at : ℕ) → r.descriptor.start_position ≤ℤ p → BreaksIn image (registration_of r) p at → ⊥
  term_unbroken (negsuc n) at from breaks = absurd (omega (arith, ints, from, start_is))
  term_unbroken (pos q) at from breaks =
      let low : first_of r ≤ q = omega (arith, ints, from, start_is) in
      let high : q ≤ last_of r = omega (arith, ints, breaks.within, last_is) in
      let parts = term_parts q low high in
      none_broken breaks.reaches.frames (term_of q) parts.back at (back_shown (term_of q) parts) breaks.reaches.chain (omega (arith, ints, breaks.before, breaks.within, last_is)) breaks.damaged

  -- where they would, the position is not before the start
  breaks_from : (p : ℤ) (at : ℕ) → BreaksIn image (registration_of r) p at → r.descriptor.start_position ≤ℤ p
  breaks_from p at breaks =
      let rises = chain_rises image lay geo (recorded_position r) breaks.reaches.frames (term_of (unsigned_abs p)) at breaks.reaches.chain in
      let low = le-max_left (first_of r) (unsigned_abs p - unsigned_abs p % unsigned_abs r.descriptor.term_length) in
      omega (arith, ints, breaks.before, rises, low, start_is)

  pub boundary_fault : (obeys : Bool) (p : ℤ) (refusal : Refusal) → IsTrue obeys
      → RefusesBoundaryIn obeys image (registration_of r) p refusal → refusal ≡ DeviceFault
  boundary_fault obeys p DeviceFault does refuses = refl
  boundary_fault obeys p (Damaged recording at) does refuses = let broken = refuses.1 does in absurd (term_unbroken p broken.0 (breaks_from p broken.0 broken.2) broken.2)
  boundary_fault obeys p refusal does refuses = absurd refuses

  pub count_outside : (obeys : Bool) (refusal : Refusal) → IsTrue obeys
      → RefusesCount obeys image (registration_of r) refusal → IsOutside refusal
  count_outside obeys DeviceFault does refuses = inl refl
  count_outside obeys NoMemory does refuses = inr refl
  count_outside obeys (Damaged recording at) does refuses = let broken = refuses.1 does in absurd (breaks_nowhere (recorded_position r) broken.0 broken.2)
  count_outside obeys refusal does refuses = absurd refuses

  -- ---- polls

  given_back : (q end most : ℕ) (bound : ℤ) (frames : List Frame) (parts : SplitsAt q (first_of r) r.frames) → ArePolled image lay geo (recorded_position r) bound most q frames end
      → frames ≡ take most (before bound q parts.back)
  given_back q end most bound frames parts polls =
      let back = subst (λ (z : ℤ). IsChain image lay geo z q parts.back (last_of r)) last_is (back_shown q parts) in
      let these = subst (λ (z : ℤ). ArePolled image lay geo z bound most q frames end) last_is polls in
      given image lay geo bound frames parts.back most q end (last_of r) back these.stand these.before these.few these.all

  pub polled_frames : (next bound : ℤ) (most end : ℕ) (frames : List Frame) → is_boundary next r ≡ true → ArePolled image lay geo (recorded_position r) bound most (unsigned_abs next) frames end
      → placed next frames ≡ polled next bound most r
  polled_frames next bound most end frames at polls =
      let edge = boundary_edge next at in
      let q : ℕ = edge.0 in
      let from : unsigned_abs next ≡ q = ap unsigned_abs edge.1 in
      let parts = splits_at q (first_of r) r.frames edge.2 in
      let these : frames ≡ take most (before bound q parts.back) = given_back q end most bound frames parts (subst (λ (n : ℕ). ArePolled image lay geo (recorded_position r) bound most n frames end) from polls) in
      let between : filter (is_between (pos q) bound) (placed (pos (first_of r)) (parts.front ++ parts.back)) ≡ placed (pos q) (before bound q parts.back) =
      between_parts bound parts.front parts.back (first_of r) q parts.ends (front_covers q parts) in
      let all : filter (is_between (pos q) bound) (placed r.descriptor.start_position r.frames) ≡ placed (pos q) (before bound q parts.back) =
      ap (λ (fs : List Frame). filter (is_between (pos q) bound) (placed r.descriptor.start_position fs)) parts.is
      ∙ ap (λ (z : ℤ). filter (is_between (pos q) bound) (placed z (parts.front ++ parts.back))) (sym start_is) ∙ between in
      let some : polled (pos q) bound most r ≡ placed (pos q) frames =
      ap (take most) all ∙ placed_take most q (before bound q parts.back) ∙ ap (placed (pos q)) (sym these) in
      subst (λ (z : ℤ). placed z frames ≡ polled z bound most r) (sym edge.1) (sym some)

  -- a replay goes on at a boundary
  pub goes_on_boundary : (next bound : ℤ) (most end : ℕ) (frames : List Frame) → is_boundary next r ≡ true → ArePolled image lay geo (recorded_position r) bound most (unsigned_abs next) frames end
      → is_boundary (pos end) r ≡ true
  goes_on_boundary next bound most end frames at polls =
      let edge = boundary_edge next at in
      let q : ℕ = edge.0 in
      let parts = splits_at q (first_of r) r.frames edge.2 in
      let chain : IsChain image lay geo (recorded_position r) q frames end = subst (λ (n : ℕ). IsChain image lay geo (recorded_position r) n frames end) (ap unsigned_abs edge.1) polls.stand in
      let behind : IsEdge end q parts.back = chain_edge image lay geo (recorded_position r) frames parts.back q end (last_of r) within_last chain (back_shown q parts) in
      edge_boundary end
      (subst (IsEdge end (first_of r)) (sym parts.is) (edge_behind end (first_of r) parts.front parts.back (subst (λ (n : ℕ). IsEdge end n parts.back) parts.ends behind)))

  pub poll_outside : (obeys : Bool) (next bound : ℤ) (most : ℕ) (refusal : Refusal) → IsTrue obeys → is_boundary next r ≡ true → RefusesPoll obeys image lay geo (recorded_position r) bound most (unsigned_abs next) refusal
      → IsOutside refusal
  poll_outside obeys next bound most DeviceFault does at refuses = inl refl
  poll_outside obeys next bound most NoMemory does at refuses = inr refl
  poll_outside obeys next bound most (Damaged recording position) does at refuses =
      let broken = refuses.1 does in
      let edge = boundary_edge next at in
      let q : ℕ = edge.0 in
      let parts = splits_at q (first_of r) r.frames edge.2 in
      let chain = subst (λ (n : ℕ). IsChain image lay geo (recorded_position r) n broken.frames broken.to) (ap unsigned_abs edge.1) broken.stand in
      absurd (none_broken broken.frames q parts.back broken.to (back_shown q parts) chain (omega (arith, ints, broken.within, last_is)) broken.damaged)
  poll_outside obeys next bound most refusal does at refuses = absurd refuses

-- ---- the same of what a register has

module _ (old new : Life) (g : Registration) (r : Recording) (read : RecordingIsRead old new g r) where
  abbrev image : DiskImage
  image = reads old.now

  pub told_read : (p : ℤ) (told : Bool) → is_end p g ≡ false → TellsBoundaryIn image g p told → told ≡ begins_frame p r
  told_read p told inside tells =
      beginning_told image r read.kept read.stands p told (subst (λ (x : Registration). is_end p x ≡ false) read.is inside)
      (subst (λ (x : Registration). TellsBoundaryIn image x p told) read.is tells)

  pub fault_read : (p : ℤ) (refusal : Refusal) → RefusesBoundaryIn new.obeys image g p refusal → refusal ≡ DeviceFault
  fault_read p refusal refuses =
      boundary_fault image r read.kept read.stands new.obeys p refusal read.obeys (subst (λ (x : Registration). RefusesBoundaryIn new.obeys image x p refusal) read.is refuses)

  pub count_read : (refusal : Refusal) → RefusesCount new.obeys image g refusal → IsOutside refusal
  count_read refusal refuses =
      count_outside image r read.kept read.stands new.obeys refusal read.obeys (subst (λ (x : Registration). RefusesCount new.obeys image x refusal) read.is refuses)

  -- frames that are shown up to the recorded position are those of the recording
  pub counted_read : (count : ℤ) → HasFrames image g count → count ≡ pos (length r.frames)
  counted_read count has =
      let these : HasFrames image (registration_of r) count = subst (λ (x : Registration). HasFrames image x count) read.is has in
      these.is ∙ ap (λ (fs : List Frame). pos (length fs))
      (one_chain image (layout_of r.descriptor) (geometry_of r.descriptor) (recorded_position r) these.frames r.frames (first_of r) (last_of r) these.chain (all_shown image r read.kept read.stands))

  pub given_read : (replay : OpenReplay) (most next : ℤ) (frames : List PolledFrame) → is_boundary replay.next r ≡ true → pos 0 ≤ℤ next → GivesShown image g replay most frames (unsigned_abs next)
      → IsTrue (is_boundary next r) × (frames ≡ polled replay.next replay.bound (unsigned_abs most) r)
  given_read replay most next frames at low gives =
      let these : GivesShown image (registration_of r) replay most frames (unsigned_abs next) = subst (λ (x : Registration). GivesShown image x replay most frames (unsigned_abs next)) read.is gives in
      let same : pos (unsigned_abs next) ≡ next = omega (arith, ints, low) in (
        subst (λ (z : ℤ). is_boundary z r ≡ true) same (goes_on_boundary image r read.kept read.stands replay.next replay.bound (unsigned_abs most) (unsigned_abs next) these.given at these.polled),
        these.placed ∙ polled_frames image r read.kept read.stands replay.next replay.bound (unsigned_abs most) (unsigned_abs next) these.given at these.polled,
      )

  pub poll_read : (next bound : ℤ) (most : ℕ) (refusal : Refusal) → is_boundary next r ≡ true
      → RefusesPoll new.obeys image (layout_of g.descriptor) (geometry_of g.descriptor) g.recorded bound most (unsigned_abs next) refusal → IsOutside refusal
  poll_read next bound most refusal at refuses =
      poll_outside image r read.kept read.stands new.obeys next bound most refusal read.obeys at
      (subst (λ (x : Registration). RefusesPoll new.obeys image (layout_of x.descriptor) (geometry_of x.descriptor) x.recorded bound most (unsigned_abs next) refusal) read.is refuses)
