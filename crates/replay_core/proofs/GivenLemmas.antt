-- What a poll gives where a disk image holds the recording's frames.
use Rattle.std.proofs.Common.{◌≡◌, ◌⊎◌, ◌∙◌, inl, inr, sym, ap, subst, refl, ℕ, ℤ, pos, ◌≤ℤ◌, ◌<ℤ◌, ◌+◌, ◌<◌, ◌≤◌, Bool, true, false, zero, suc, List, [], ◌∷◌, length, take, arith}
use Rattle.std.proofs.lemmas.Int.{ints}
use Rattle.std.specs.Prelude.{int_lt, if◌then◌else◌}
use Rattle.disk_core.specs.DiskImage.{DiskImage}
use Rattle.frame_core.specs.declared.frame.Frame.{Frame}
use Rattle.frame_core.specs.declared.geometry.Geometry.{Geometry}
use Rattle.frame_core.specs.Block.{AreEncodable}
use Rattle.frame_core.specs.FrameEncoding.{aligned_length}
use Rattle.segment_store.specs.declared.layout.Layout.{Layout}
use Rattle.segment_store.specs.Boundary.{IsChain}
use Rattle.segment_store.specs.DamagedFrame.{ShowsFrame}
use Rattle.segment_store.specs.Stored.{HoldsFrames}
use Rattle.segment_store.proofs.DurableLemmas.{stored_shown, one_shown}
use Rattle.segment_store.proofs.ReadLemmas.{belongs_covers, belongs_ends}
use Rattle.replay_core.specs.Pages.{Pages}
use Rattle.replay_core.specs.Poll.{AgreeOn, BeginBefore, Belong, ArePolled, BreaksOff, before}

-- what begins at or past the bound does not begin before it
not_before : (bound : ℤ) (from : ℕ) (test : Bool) → int_lt (pos from) bound ≡ test → bound ≤ℤ pos from → test ≡ false
not_before bound from true is low = absurd (omega (arith, ints, is, low))
not_before bound from false is low = refl

is_before : (bound : ℤ) (from : ℕ) (test : Bool) → int_lt (pos from) bound ≡ test → pos from <ℤ bound → test ≡ true
is_before bound from true is low = refl
is_before bound from false is low = absurd (omega (arith, ints, is, low))

abbrev no_frames : List Frame
no_frames = []

take_nil : (n : ℕ) → take n no_frames ≡ no_frames
take_nil zero = refl
take_nil (suc n) = refl

module _ (image : DiskImage) (l : Layout) (g : Geometry) where
  -- a frame that is shown covers some bytes
  pub covers : (limit : ℤ) (p : ℕ) (f : Frame) → ShowsFrame image l g limit p f → 0 < aligned_length f
  covers limit p f shown = belongs_covers l g p limit f shown.encodable shown.belongs

  -- frames that are held are shown, one after another
  pub held_shown : (limit : ℤ) (held : List Frame) (from to : ℕ) → HoldsFrames image l from held to → AreEncodable held → Belong l g limit from held → IsChain image l g limit from held to
  held_shown limit [] from to holds encodable belong = holds
  held_shown limit (h ∷ hs) from to holds encodable belong =
      (stored_shown image l g limit from h holds.0 encodable.0 belong.0, held_shown limit hs (from + aligned_length h) to holds.1 encodable.1 belong.1)

  -- a chain ends no lower than it begins
  pub rises : (limit : ℤ) (frames : List Frame) (from to : ℕ) → IsChain image l g limit from frames to → from ≤ to
  rises limit [] from to is = omega (arith, is)
  rises limit (f ∷ fs) from to is = omega (arith, rises limit fs (from + aligned_length f) to is.1)

  -- frames that are given, and all that are held: those given are the first of these that begin before the bound
  pub given : (bound : ℤ) (frames held : List Frame) (most from end to : ℕ) → IsChain image l g (pos to) from held to → IsChain image l g (pos to) from frames end
      → BeginBefore bound from frames → length frames ≤ most → (length frames ≡ most) ⊎ (bound ≤ℤ pos end) ⊎ (pos to ≤ℤ pos end) → frames ≡ take most (before bound from held)
  given bound [] [] most from end to held chain begin few all = sym (take_nil most)
  given bound [] (h ∷ hs) most from end to held chain begin few (inl none) = subst (λ (n : ℕ). [] ≡ take n (before bound from (h ∷ hs))) none refl
  given bound [] (h ∷ hs) most from end to held chain begin few (inr (inl low)) =
      let past : int_lt (pos from) bound ≡ false = not_before bound from (int_lt (pos from) bound) refl (omega (arith, ints, chain, low)) in
      sym (ap (λ (test : Bool). take most (if test then h ∷ before bound (from + aligned_length h) hs else [])) past ∙ take_nil most)
  given bound [] (h ∷ hs) most from end to held chain begin few (inr (inr high)) =
      absurd (omega (arith, ints, chain, high, covers (pos to) from h held.0, rises (pos to) hs (from + aligned_length h) to held.1))
  given bound (f ∷ fs) [] most from end to held chain begin few all =
      absurd (omega (arith, ints, held, covers (pos to) from f chain.0, belongs_ends l g from (pos to) f chain.0.belongs))
  given bound (f ∷ fs) (h ∷ hs) zero from end to held chain begin few all = absurd (omega (arith, few))
  given bound (f ∷ fs) (h ∷ hs) (suc most) from end to held chain begin few all =
      let same : f ≡ h = one_shown image l g (pos to) from f h chain.0 held.0 in
      let onwards : IsChain image l g (pos to) (from + aligned_length f) hs to = subst (λ (n : ℕ). IsChain image l g (pos to) (from + n) hs to) (sym (ap aligned_length same)) held.1 in
      let rest : fs ≡ take most (before bound (from + aligned_length f) hs) = given bound fs hs most (from + aligned_length f) end to onwards chain.1 begin.1 (omega (arith, few)) (elim all [ inl is ↦ inl (omega (arith, is)) | inr other ↦ inr other ]) in
      let test : int_lt (pos from) bound ≡ true = is_before bound from (int_lt (pos from) bound) refl begin.0 in
      ap (λ (xs : List Frame). f ∷ xs) rest
      ∙ ap (λ (x : Frame). x ∷ take most (before bound (from + aligned_length x) hs)) same
      ∙ sym (ap (λ (b : Bool). take (suc most) (if b then h ∷ before bound (from + aligned_length h) hs else [])) test)

  -- a frame stands wherever the held frames go on
  pub goes_on : (limit : ℤ) (frames held : List Frame) (from at to : ℕ) → IsChain image l g limit from held to → IsChain image l g limit from frames at → at < to → (f : Frame) × ShowsFrame image l g limit at f
  goes_on limit [] [] from at to held chain before = absurd (omega (arith, held, chain, before))
  goes_on limit [] (h ∷ hs) from at to held chain before = (h, subst (λ (p : ℕ). ShowsFrame image l g limit p h) chain held.0)
  goes_on limit (f ∷ fs) [] from at to held chain before = absurd (omega (arith, held, rises limit fs (from + aligned_length f) at chain.1, before))
  goes_on limit (f ∷ fs) (h ∷ hs) from at to held chain before =
      let same : f ≡ h = one_shown image l g limit from f h chain.0 held.0 in
      goes_on limit fs hs (from + aligned_length f) at to (subst (λ (n : ℕ). IsChain image l g limit (from + n) hs to) (sym (ap aligned_length same)) held.1) chain.1 before

pub all_given : (image : DiskImage) (l : Layout) (g : Geometry) (held frames : List Frame) (from to end most : ℕ) (bound : ℤ) → HoldsFrames image l from held to → AreEncodable held → Belong l g (pos to) from held
    → ArePolled image l g (pos to) bound most from frames end → frames ≡ take most (before bound from held)
all_given image l g held frames from to end most bound holds encodable belong polls =
    given image l g bound frames held most from end to (held_shown image l g (pos to) held from to holds encodable belong) polls.stand polls.before polls.few polls.all

pub none_breaks_off : (image : DiskImage) (l : Layout) (g : Geometry) (generation : ℕ) (pages : Pages) (held : List Frame) (from to most : ℕ) (bound at : ℤ) → HoldsFrames image l from held to → AreEncodable held
    → Belong l g (pos to) from held → ((frames : List Frame) → AgreeOn image l generation pages from frames) → BreaksOff image l g generation pages (pos to) bound most from at → ⊥
none_breaks_off image l g generation pages held from to most bound at holds encodable belong agree breaks =
    let next = goes_on image l g (pos to) breaks.frames held from breaks.to to (held_shown image l g (pos to) held from to holds encodable belong) (breaks.stand (agree breaks.frames)) (omega (arith, ints, breaks.within)) in
    breaks.damaged next.0 next.1
