-- Replayed frames, from an index of the list of frames on.
use Rattle.std.proofs.Common.{◌≡◌, ◌<◌, ◌≤◌, ◌+◌, ℕ, ℤ, pos, negsuc, Bool, true, false, List, [], ◌∷◌, ◌++◌, length, get_or, take, drop, refl, append-nil, sym, ap, subst, ◌∙◌, true≢false, int_lt, nat_lt, arith}
use Rattle.std.proofs.lemmas.Bool.Decides.{nat_tests, Decides-int_eq}
use Rattle.std.proofs.Math.Seq.{take-append_seam}
use Rattle.std.specs.Ordering.{int_eq}
use Rattle.frame_core.specs.declared.frame.Frame.{Frame}
use Rattle.frame_core.specs.FrameEncoding.{aligned_length}
use Rattle.archive_model.specs.declared.reply.PolledFrame.{PolledFrame}
use Rattle.archive_model.specs.Replay.{placed, frames_in}
use Rattle.archive_model.proofs.ListLemmas.{rest_at, rest_past, take_whole}
use Rattle.archive_model.proofs.ReplayLemmas.{apart_above, begins_at, none_behind}

-- whether the next frame begins at a position that is reached
or_first : (p : ℤ) (at : ℕ) (f : Frame) (fs : List Frame) (same : Bool) → int_eq p (pos at) ≡ same → int_lt (pos at) p ≡ false
    → begins_at p (placed (pos at) (f ∷ fs)) ≡ same
or_first p at f fs true is reached = rw is refl
or_first (negsuc k) at f fs false is reached = none_behind (negsuc k) at (f ∷ fs) refl
or_first (pos k) at f fs false is reached =
    let behind : nat_lt k at ≡ true = grind (arith, nat_tests, Decides-int_eq (pos k) (pos at)) in none_behind (pos k) at (f ∷ fs) behind

-- once a position is reached, only the next frame may begin at it
only_next : (p : ℤ) (at : ℕ) (f : Frame) (fs : List Frame) → int_lt (pos at) p ≡ false → begins_at p (placed (pos at) (f ∷ fs)) ≡ int_eq p (pos at)
only_next p at f fs reached = or_first p at f fs (int_eq p (pos at)) refl reached

pub begins_here : (p : ℤ) (at i : ℕ) (f : Frame) (fs : List Frame) → i < length fs → f ≡ get_or fs i f → int_lt (pos at) p ≡ false
    → begins_at p (placed (pos at) (drop i fs)) ≡ int_eq p (pos at)
begins_here p at i f fs within is reached = rw (rest_at fs i f within is) (only_next p at f (drop (i + 1) fs) reached)

-- a frame that begins before a position does not begin at it
not_next : (p : ℤ) (at : ℕ) (f : Frame) (fs : List Frame) → int_lt (pos at) p ≡ true → begins_at p (placed (pos at) (f ∷ fs)) ≡ begins_at p (placed (pos (at + aligned_length f)) fs)
not_next (negsuc k) at f fs before = absurd (true≢false (sym before))
not_next (pos k) at f fs before = rw (apart_above k at before) refl

pub begins_later : (p : ℤ) (at i : ℕ) (f : Frame) (fs : List Frame) → i < length fs → f ≡ get_or fs i f → int_lt (pos at) p ≡ true
    → begins_at p (placed (pos at) (drop i fs)) ≡ begins_at p (placed (pos (at + aligned_length f)) (drop (i + 1) fs))
begins_later p at i f fs within is before = rw (rest_at fs i f within is) (not_next p at f (drop (i + 1) fs) before)

pub begins_nowhere : (p : ℤ) (at i : ℕ) (fs : List Frame) → length fs ≤ i → begins_at p (placed (pos at) (drop i fs)) ≡ false
begins_nowhere p at i fs past = rw (rest_past fs i past) refl

pub replays_all : (found all : List Frame) (rest : List PolledFrame) → found ++ frames_in rest ≡ all → rest ≡ [] → found ≡ all
replays_all found all rest is none = sym (append-nil found) ∙ ap (λ (fs : List PolledFrame). found ++ frames_in fs) (sym none) ∙ is

pub polls_all : (count : ℕ) (found all rest : List PolledFrame) → length found ≤ count → found ++ rest ≡ all → rest ≡ [] → found ≡ take count all
polls_all count found all rest few is none =
    let whole : found ≡ all = sym (append-nil found) ∙ ap (λ (fs : List PolledFrame). found ++ fs) (sym none) ∙ is in
    whole ∙ sym (take_whole all count (subst (λ (fs : List PolledFrame). length fs ≤ count) whole few))

pub polls_first : (count : ℕ) (found all rest : List PolledFrame) → length found ≡ count → found ++ rest ≡ all → found ≡ take count all
polls_first count found all rest many is = subst (λ (n : ℕ). found ≡ take n all) many (sym (take-append_seam found rest) ∙ ap (take (length found)) is)
