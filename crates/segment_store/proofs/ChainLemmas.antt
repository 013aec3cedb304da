-- Chains of frames that are shown one after another.
use Rattle.std.proofs.Common.{◌≡◌, ◌⊎◌, ◌∙◌, inl, inr, sym, ap, subst, refl, ℕ, ℤ, pos, negsuc, ◌≤ℤ◌, ◌<ℤ◌, ◌+◌, ◌<◌, ◌≤◌, ◌&&◌, Bool, true, false, IsTrue, List, [], ◌∷◌, ◌++◌, arith}
use Rattle.std.proofs.lemmas.Int.{ints}
use Rattle.std.proofs.lemmas.Bool.{cases_lt}
use Rattle.std.specs.Prelude.{unsigned_abs, int_le, Result, Ok, Err, IfErr, IsErrAnd}
use Rattle.disk_core.specs.DiskImage.{DiskImage}
use Rattle.disk_core.specs.Life.{Life, IsQuiet}
use Rattle.frame_core.specs.declared.frame.Frame.{Frame}
use Rattle.frame_core.specs.declared.geometry.Geometry.{Geometry}
use Rattle.frame_core.specs.declared.refusal.Refusal.{Refusal}
use Rattle.frame_core.specs.declared.refusal.Refusal.TheVariants.{Damaged, DeviceFault}
use Rattle.frame_core.specs.FrameEncoding.{aligned_length}
use Rattle.segment_store.specs.declared.layout.Layout.{Layout}
use Rattle.segment_store.specs.Boundary.{IsChain, Reaches, RefusesReached, TellsReached}
use Rattle.segment_store.specs.DamagedFrame.{ShowsFrame, belongs_at}
use Rattle.segment_store.specs.Window.{FrameEndsAt, RefusesEnd}
use Rattle.segment_store.proofs.DurableLemmas.{one_shown}

module _ (image : DiskImage) (l : Layout) (g : Geometry) (limit : ℤ) where
  -- a chain ends no lower than it begins
  pub chain_rises : (frames : List Frame) (from to : ℕ) → IsChain image l g limit from frames to → from ≤ to
  chain_rises [] from to is = omega (arith, is)
  chain_rises (f ∷ fs) from to is = omega (arith, chain_rises fs (from + aligned_length f) to is.1)

  -- one frame more
  chain_more : (frames : List Frame) (from to end : ℕ) (f : Frame) → IsChain image l g limit from frames to → ShowsFrame image l g limit to f → end ≡ to + aligned_length f
      → IsChain image l g limit from (frames ++ f ∷ []) end
  chain_more [] from to end f is shown end_is =
      (subst (λ (p : ℕ). ShowsFrame image l g limit p f) (sym is) shown, sym end_is_from)
    where
      end_is_from : end ≡ from + aligned_length f
      end_is_from = omega (arith, end_is, is)
  chain_more (h ∷ hs) from to end f is shown end_is = (is.0, chain_more hs (from + aligned_length h) to end f is.1 shown end_is)

  -- of two chains from one position the longer one goes on where the shorter one ends
  pub chain_passes : (frames others : List Frame) (from to end : ℕ) → IsChain image l g limit from frames to → IsChain image l g limit from others end → to < end
      → (f : Frame) × ShowsFrame image l g limit to f × (to + aligned_length f ≤ end)
  chain_passes [] [] from to end is other before = absurd (omega (arith, is, other, before))
  chain_passes [] (h ∷ hs) from to end is other before =
      (h, subst (λ (p : ℕ). ShowsFrame image l g limit p h) is other.0, omega (arith, is, chain_rises hs (from + aligned_length h) end other.1))
  chain_passes (f ∷ fs) [] from to end is other before = absurd (omega (arith, chain_rises fs (from + aligned_length f) to is.1, other, before))
  chain_passes (f ∷ fs) (h ∷ hs) from to end is other before =
      let same : f ≡ h = one_shown image l g limit from f h is.0 other.0 in
      chain_passes fs hs (from + aligned_length f) to end is.1
      (subst (λ (n : ℕ). IsChain image l g limit (from + n) hs end) (sym (ap aligned_length same)) other.1) before

  -- the frame after those so far
  pub reaches_more : (from to end : ℕ) → Reaches image l g limit from to → FrameEndsAt image l g limit to end → Reaches image l g limit from end
  reaches_more from to end so_far next = record {
    frames = so_far.frames ++ next.frame ∷ [];
    chain = chain_more so_far.frames from to end next.frame so_far.chain next.shown next.is;
  }

  -- a position that a frame goes past is no boundary, and nothing breaks off before it
  pub goes_past : (from at next end : ℕ) (position : ℤ) → Reaches image l g limit from at → FrameEndsAt image l g limit at next → at < end → end < next → position ≡ pos end → TellsReached image l g limit from position false
  goes_past from at next end position so_far frame before behind is = (
    λ boundary.
        let there : boundary.end ≡ end = omega (arith, ints, sym boundary.is ∙ is) in
        let passes = chain_passes so_far.frames boundary.reaches.frames from at boundary.end so_far.chain boundary.reaches.chain (omega (arith, there, before)) in
        let same = ap aligned_length (one_shown image l g limit at frame.frame passes.0 frame.shown passes.1) in
        omega (arith, passes.2, same, frame.is, there, behind),
    λ broken breaks.
        let low : broken < end = omega (arith, ints, breaks.before, is) in
        elim (cases_lt broken at) [
          | inl less ↦
              let passes = chain_passes breaks.reaches.frames so_far.frames from broken at breaks.reaches.chain so_far.chain less in
              breaks.damaged passes.0 passes.1
          | inr more ↦ elim (cases_lt at broken) [
            | inl greater ↦
                let passes = chain_passes so_far.frames breaks.reaches.frames from at broken so_far.chain breaks.reaches.chain greater in
                let same = ap aligned_length (one_shown image l g limit at frame.frame passes.0 frame.shown passes.1) in
                absurd (omega (arith, passes.2, same, frame.is, low, behind))
            | inr equal ↦ breaks.damaged frame.frame (subst (λ (p : ℕ). ShowsFrame image l g limit p frame.frame) (omega (arith, more, equal)) frame.shown)
          ]
        ],
  )

  last_true : (x y : Bool) → (x && y) ≡ true → y ≡ true
  last_true true y is = is
  last_true false y is = absurd (cc)

  shown_within : (p : ℕ) (f : Frame) → belongs_at l g p limit f ≡ true → pos (p + aligned_length f) ≤ℤ limit
  unfolding belongs_at
  shown_within p f belongs = let test : int_le (pos (p + aligned_length f)) limit ≡ true = last_true _ _ belongs in grind (arith, ints, test)

  -- a chain of some frames ends at or before the limit
  chain_within : (frames : List Frame) (from to : ℕ) → IsChain image l g limit from frames to → from < to → pos to ≤ℤ limit
  chain_within [] from to is some = absurd (omega (arith, is, some))
  chain_within (f ∷ []) from to is some = subst (λ (n : ℕ). pos n ≤ℤ limit) is.1 (shown_within from f is.0.belongs)
  chain_within (f ∷ h ∷ hs) from to is some = elim (cases_lt (from + aligned_length f) to) [
    | inl more ↦ chain_within (h ∷ hs) (from + aligned_length f) to is.1 more
    | inr none ↦ subst (λ (n : ℕ). pos n ≤ℤ limit) (omega (arith, none, chain_rises (h ∷ hs) (from + aligned_length f) to is.1)) (shown_within from f is.0.belongs)
  ]

  -- no frame of the recording ends there
  pub none_there : (from : ℕ) (position : ℤ) → (position <ℤ pos from) ⊎ ((limit <ℤ position) × (pos from <ℤ position)) → TellsReached image l g limit from position false
  none_there from position outside = (
    λ boundary.
        let low = chain_rises boundary.reaches.frames from boundary.end boundary.reaches.chain in
        elim outside [
          | inl before ↦ omega (arith, ints, before, low, boundary.is)
          | inr past ↦ elim (cases_lt from boundary.end) [
            | inl some ↦ omega (arith, ints, past.0, boundary.is, chain_within boundary.reaches.frames from boundary.end boundary.reaches.chain some)
            | inr none ↦ omega (arith, ints, none, past.1, boundary.is)
          ]
        ],
    λ broken breaks. elim outside [
      | inl before ↦ omega (arith, ints, before, breaks.before, chain_rises breaks.reaches.frames from broken breaks.reaches.chain)
      | inr past ↦ omega (arith, ints, past.0, breaks.within)
    ],
  )

-- where the frames begin is reached
pub start_there : (image : DiskImage) (l : Layout) (g : Geometry) (recorded : ℤ) (from : ℕ) (position : ℤ) → position ≡ pos from → TellsReached image l g recorded from position true
start_there image l g recorded from position is = record { end = from; is = is; reaches = record { frames = []; chain = refl } }

-- a frame that is refused before a position breaks the chain there
pub breaks_off : (obeys : Bool) (image : DiskImage) (l : Layout) (g : Geometry) (recorded : ℤ) (from : ℕ) (position : ℤ) (at end : ℕ) (refusal : Refusal) → position ≡ pos end → at < end → position ≤ℤ recorded
    → (IsTrue obeys → Reaches image l g recorded from at) → RefusesEnd obeys image l g recorded at refusal → RefusesReached obeys image l g recorded from position refusal
breaks_off obeys image l g recorded from position at end DeviceFault is before within so_far refused = tt
breaks_off obeys image l g recorded from position at end (Damaged recording where_) is before within so_far refused =
    (refused.0, λ yes. (at, refused.1, record { reaches = so_far yes; before = omega (arith, ints, is, before); within = within; damaged = refused.2 yes }))
breaks_off obeys image l g recorded from position at end _ is before within so_far refused = absurd refused

-- the position of a number that is not negative
pub pos_abs : (z : ℤ) → pos 0 ≤ℤ z → z ≡ pos (unsigned_abs z)
pos_abs (pos n) low = refl
pos_abs (negsuc n) low = absurd (omega (arith, ints, low))

-- two quiet calls
pub quiet_on : (old mid new : Life) → IsQuiet old mid → IsQuiet mid new → IsQuiet old new
quiet_on old mid new first second = record {
  obeyed = λ obeys. first.obeyed (second.obeyed obeys);
  past = second.past ∙ first.past;
  now = second.now ∙ first.now;
  faults = omega (arith, first.faults, second.faults);
}

-- what is known of a refusal that is handed on
pub handed_on : {X : Type 0} → (r : Result X Refusal) (refusal : Refusal) (P : Refusal → Type 0) → IsErrAnd r (λ e. e ≡ refusal) → P refusal → IfErr r P
handed_on (Ok b) refusal P is holds = tt
handed_on (Err e) refusal P is holds = subst P (sym is) holds
