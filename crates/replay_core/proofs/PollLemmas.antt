-- Frames that a poll has read so far, and one more.
use Rattle.std.proofs.Common.{◌≡◌, ◌⊎◌, inl, inr, ◌∙◌, sym, ap, subst, ℕ, ℤ, pos, ◌≤ℤ◌, ◌<ℤ◌, ◌+ℤ◌, ◌+◌, ◌<◌, ◌≤◌, IsTrue, List, [], ◌∷◌, ◌++◌, length, length-append, arith}
use Rattle.std.proofs.lemmas.Int.{ints}
use Rattle.std.specs.Prelude.{unsigned_abs}
use Rattle.disk_core.specs.DiskImage.{DiskImage, Files, reads}
use Rattle.disk_core.specs.Life.{Life, IsQuiet}
use Rattle.frame_core.specs.declared.frame.Frame.{Frame}
use Rattle.frame_core.specs.declared.geometry.Geometry.{Geometry}
use Rattle.frame_core.specs.Block.{covered}
use Rattle.frame_core.specs.FrameEncoding.{aligned_length, encoded}
use Rattle.segment_store.specs.declared.layout.Layout.{Layout}
use Rattle.segment_store.specs.Boundary.{IsChain}
use Rattle.segment_store.specs.DamagedFrame.{ShowsFrame}
use Rattle.replay_core.specs.Pages.{AgreeOver, KeepsRead, Pages}
use Rattle.replay_core.specs.Poll.{AgreeOn, BeginBefore, MovesTo}
use Rattle.replay_core.proofs.PageLemmas.{agree_later, keeps_on}

-- how far a poll has moved: as `MovesTo` says, or nothing has been read
abbrev pub HasMoved : ℤ → ℤ → ℤ → ℤ → List Frame → Type 0
HasMoved recorded bound next at frames = ((next <ℤ at) × (at ≤ℤ recorded) × (next <ℤ bound)) ⊎ ((at ≡ next) × (length frames ≡ 0))

-- what has been read of a poll
pub record HasRead (old new : Life) (l : Layout) (g : Geometry) (generation : ℕ) (pages now_kept : Pages) (recorded bound : ℤ) (most : ℕ) (next at : ℤ) (frames : List Frame) : Type 0 where
  pub quiet : IsQuiet old new
  pub onwards : next ≤ℤ at
  pub covers : at ≡ next +ℤ pos (covered frames)
  pub moved : HasMoved recorded bound next at frames
  pub few : length frames ≤ most
  pub stand : IsTrue new.obeys → AgreeOn (reads old.now) l generation pages (unsigned_abs next) frames → IsChain (reads old.now) l g recorded (unsigned_abs next) frames (unsigned_abs at)
  pub before : pos 0 ≤ℤ next → BeginBefore bound (unsigned_abs next) frames
  pub keeps : KeepsRead (IsTrue new.obeys) (reads old.now) l generation recorded pages now_kept

covered_more : (frames : List Frame) (f : Frame) → covered (frames ++ f ∷ []) ≡ covered frames + aligned_length f
covered_more [] f = omega arith
covered_more (h ∷ hs) f = omega (arith, covered_more hs f)

-- one frame more begins where those so far end
before_more : (bound : ℤ) (frames : List Frame) (from : ℕ) (f : Frame) → BeginBefore bound from frames → pos (from + covered frames) <ℤ bound → BeginBefore bound from (frames ++ f ∷ [])
before_more bound [] from f before low = (omega (arith, ints, low), tt)
before_more bound (h ∷ hs) from f before low = (before.0, before_more bound hs (from + aligned_length h) f before.1 (omega (arith, ints, low)))

module _ (image : DiskImage) (l : Layout) (g : Geometry) (limit : ℤ) where
  -- it is shown there
  pub chain_more : (frames : List Frame) (from to : ℕ) (f : Frame) → IsChain image l g limit from frames to → ShowsFrame image l g limit to f
      → IsChain image l g limit from (frames ++ f ∷ []) (to + aligned_length f)
  chain_more [] from to f is shown = (subst (λ (p : ℕ). ShowsFrame image l g limit p f) (sym is) shown, ap (λ (p : ℕ). p + aligned_length f) is)
  chain_more (h ∷ hs) from to f is shown = (is.0, chain_more hs (from + aligned_length h) to f is.1 shown)

module _ (image : DiskImage) (l : Layout) (generation : ℕ) (pages : Pages) where
  -- pages that agree on frames and one more agree on those
  agree_front : (frames : List Frame) (from : ℕ) (f : Frame) → AgreeOn image l generation pages from (frames ++ f ∷ []) → AgreeOn image l generation pages from frames
  agree_front [] from f agree = tt
  agree_front (h ∷ hs) from f agree = (agree.0, agree_front hs (from + aligned_length h) f agree.1)

  -- and on that one
  agree_last : (frames : List Frame) (from : ℕ) (f : Frame) → AgreeOn image l generation pages from (frames ++ f ∷ []) → AgreeOver image l generation pages (from + covered frames) (length (encoded f))
  agree_last [] from f agree = subst (λ (p : ℕ). AgreeOver image l generation pages p (length (encoded f))) (omega arith) agree.0
  agree_last (h ∷ hs) from f agree =
      subst (λ (p : ℕ). AgreeOver image l generation pages p (length (encoded f))) (omega arith) (agree_last hs (from + aligned_length h) f agree.1)

module _ (old mid new : Life) (l : Layout) (g : Geometry) (generation : ℕ) (pages mid_kept new_kept : Pages) (recorded bound : ℤ) (most : ℕ) (next at : ℤ) (frames : List Frame) (f : Frame) where
  -- what one call says of a frame
  pub record ReadsOne : Type 0 where
    pub quiet : IsQuiet mid new
    pub shown : IsTrue new.obeys → AgreeOver (reads mid.now) l generation mid_kept (unsigned_abs at) (length (encoded f)) → ShowsFrame (reads mid.now) l g recorded (unsigned_abs at) f
    pub within : pos (unsigned_abs at + aligned_length f) ≤ℤ recorded
    pub some : 0 < aligned_length f
    pub keeps : KeepsRead (IsTrue new.obeys) (reads mid.now) l generation recorded mid_kept new_kept

  -- the same over the store that the call had
  pub reads_one : (layout : Layout) (geometry : Geometry) (number : ℕ) → layout ≡ l → geometry ≡ g → number ≡ generation → IsQuiet mid new
      → (IsTrue new.obeys → AgreeOver (reads mid.now) layout number mid_kept (unsigned_abs at) (length (encoded f)) → ShowsFrame (reads mid.now) layout geometry recorded (unsigned_abs at) f)
      → pos (unsigned_abs at + aligned_length f) ≤ℤ recorded → 0 < aligned_length f → KeepsRead (IsTrue new.obeys) (reads mid.now) layout number recorded mid_kept new_kept → ReadsOne
  reads_one layout geometry number layout_is geometry_is number_is quiet shown within some keeps = record {
    quiet = quiet;
    shown = subst (λ (n : ℕ). IsTrue new.obeys → AgreeOver (reads mid.now) l n mid_kept (unsigned_abs at) (length (encoded f)) → ShowsFrame (reads mid.now) l g recorded (unsigned_abs at) f) number_is
        (subst (λ (terms : Geometry). IsTrue new.obeys → AgreeOver (reads mid.now) l number mid_kept (unsigned_abs at) (length (encoded f)) → ShowsFrame (reads mid.now) l terms recorded (unsigned_abs at) f) geometry_is
        (subst (λ (x : Layout). IsTrue new.obeys → AgreeOver (reads mid.now) x number mid_kept (unsigned_abs at) (length (encoded f)) → ShowsFrame (reads mid.now) x geometry recorded (unsigned_abs at) f) layout_is shown));
    within = within;
    some = some;
    keeps = subst (λ (n : ℕ). KeepsRead (IsTrue new.obeys) (reads mid.now) l n recorded mid_kept new_kept) number_is
        (subst (λ (x : Layout). KeepsRead (IsTrue new.obeys) (reads mid.now) x number recorded mid_kept new_kept) layout_is keeps);
  }

  -- a frame more has been read
  pub one_more : (end : ℤ) → HasRead old mid l g generation pages mid_kept recorded bound most next at frames → ReadsOne → pos 0 ≤ℤ next → unsigned_abs l.start_position ≤ unsigned_abs next
      → length frames < most → at <ℤ bound → end ≡ at +ℤ pos (aligned_length f)
      → HasRead old new l g generation pages new_kept recorded bound most next end (frames ++ f ∷ [])
  one_more end read one start from fewer low is =
      let image : DiskImage = reads old.now in
      let there : unsigned_abs next + covered frames ≡ unsigned_abs at = omega (arith, ints, read.covers, start) in
      let ends : unsigned_abs at + aligned_length f ≡ unsigned_abs end = omega (arith, ints, is, start, read.onwards) in
      let keeps : KeepsRead (IsTrue new.obeys) image l generation recorded mid_kept new_kept =
      subst (λ (files : Files). KeepsRead (IsTrue new.obeys) (reads files) l generation recorded mid_kept new_kept) read.quiet.now one.keeps in
      record {
        quiet = record {
          obeyed = λ obeys. read.quiet.obeyed (one.quiet.obeyed obeys);
          past = one.quiet.past ∙ read.quiet.past;
          now = one.quiet.now ∙ read.quiet.now;
          faults = omega (arith, one.quiet.faults, read.quiet.faults);
        };
        onwards = omega (arith, ints, is, read.onwards);
        covers = is ∙ ap (λ (z : ℤ). z +ℤ pos (aligned_length f)) read.covers ∙ omega (arith, ints, covered_more frames f);
        moved = inl (
          omega (arith, ints, is, read.onwards, one.some),
          omega (arith, ints, is, start, read.onwards, one.within),
          omega (arith, ints, low, read.onwards),
        );
        few = omega (arith, length-append frames (f ∷ []), fewer);
        stand = λ obeys agree.
            let obeyed : IsTrue mid.obeys = one.quiet.obeyed obeys in
            let last : AgreeOver image l generation pages (unsigned_abs at) (length (encoded f)) =
            subst (λ (p : ℕ). AgreeOver image l generation pages p (length (encoded f))) there (agree_last image l generation pages frames (unsigned_abs next) f agree) in
            let later : AgreeOver image l generation mid_kept (unsigned_abs at) (length (encoded f)) =
            agree_later (IsTrue mid.obeys) image l generation recorded pages mid_kept (unsigned_abs at) (length (encoded f)) obeyed (omega (arith, from, there)) read.keeps last in
            let shown : AgreeOver image l generation mid_kept (unsigned_abs at) (length (encoded f)) → ShowsFrame image l g recorded (unsigned_abs at) f =
            subst (λ (files : Files). AgreeOver (reads files) l generation mid_kept (unsigned_abs at) (length (encoded f)) → ShowsFrame (reads files) l g recorded (unsigned_abs at) f) read.quiet.now (one.shown obeys) in
            subst (IsChain image l g recorded (unsigned_abs next) (frames ++ f ∷ [])) ends
            (chain_more image l g recorded frames (unsigned_abs next) (unsigned_abs at) f
            (read.stand obeyed (agree_front image l generation pages frames (unsigned_abs next) f agree)) (shown later));
        before = λ low_next. before_more bound frames (unsigned_abs next) f (read.before low_next) (omega (arith, ints, low, there, start, read.onwards));
        keeps = keeps_on (IsTrue new.obeys) (IsTrue mid.obeys) image l generation recorded pages mid_kept new_kept one.quiet.obeyed read.keeps keeps;
      }

-- pages that are kept after a call were kept before the poll, or were read
pub keeps_later : (old mid new : Life) (l layout : Layout) (generation number : ℕ) (pages mid_kept new_kept : Pages) (recorded : ℤ) → layout ≡ l → number ≡ generation → IsQuiet old mid → IsQuiet mid new
    → KeepsRead (IsTrue mid.obeys) (reads old.now) l generation recorded pages mid_kept → KeepsRead (IsTrue new.obeys) (reads mid.now) layout number recorded mid_kept new_kept
    → KeepsRead (IsTrue new.obeys) (reads old.now) l generation recorded pages new_kept
keeps_later old mid new l layout generation number pages mid_kept new_kept recorded layout_is number_is quiet later before after =
    keeps_on (IsTrue new.obeys) (IsTrue mid.obeys) (reads old.now) l generation recorded pages mid_kept new_kept later.obeyed before
    (subst (λ (files : Files). KeepsRead (IsTrue new.obeys) (reads files) l generation recorded mid_kept new_kept) quiet.now
    (subst (λ (n : ℕ). KeepsRead (IsTrue new.obeys) (reads mid.now) l n recorded mid_kept new_kept) number_is
    (subst (λ (x : Layout). KeepsRead (IsTrue new.obeys) (reads mid.now) x number recorded mid_kept new_kept) layout_is after)))

-- where the poll ends, it has moved as it says: frames were asked for, and so many were read, or the next one begins at the
-- bound or behind it, or where the recording ends
pub moves_to : (recorded bound : ℤ) (most : ℕ) (next at : ℤ) (frames : List Frame) → HasMoved recorded bound next at frames → 0 < most
    → (most ≤ length frames) ⊎ (bound ≤ℤ at) ⊎ (recorded ≤ℤ at) → MovesTo recorded bound next at
moves_to recorded bound most next at frames (inl moved) asked end = inl moved
moves_to recorded bound most next at frames (inr none) asked (inl all) = absurd (omega (arith, none.1, asked, all))
moves_to recorded bound most next at frames (inr none) asked (inr (inl high)) = inr (none.0, inl (omega (arith, ints, none.0, high)))
moves_to recorded bound most next at frames (inr none) asked (inr (inr high)) = inr (none.0, inr (omega (arith, ints, none.0, high)))
