-- The frames that a cut leaves, from an index of their list on.
use Rattle.std.proofs.Common.{◌≡◌, ◌<◌, ◌≤◌, ◌+◌, ℕ, ℤ, pos, negsuc, true, false, List, [], ◌∷◌, ◌++◌, append-nil, append_assoc, length, get_or, take, drop, filter, refl, sym, ap, ◌∙◌, int_le, int_lt, add-one, arith}
use Rattle.std.proofs.lemmas.Bool.Decides.{nat_tests}
use Rattle.std.proofs.Math.Seq.{take-suc}
use Rattle.frame_core.specs.declared.frame.Frame.{Frame}
use Rattle.frame_core.specs.FrameEncoding.{aligned_length}
use Rattle.archive_model.specs.declared.reply.PolledFrame.{PolledFrame}
use Rattle.archive_model.specs.Replay.{placed, frames_in}
use Rattle.archive_model.specs.Commands.{ends_by}
use Rattle.archive_model.proofs.ListLemmas.{rest_at, rest_past, take_whole}
use Rattle.archive_model.proofs.CutLemmas.{keep_none, unreached}

abbrev pub ended_from : ℤ → ℕ → ℕ → List Frame → List Frame
ended_from p at i fs = frames_in (filter (ends_by p) (placed (pos at) (drop i fs)))

none_ends : (p : ℤ) (at : ℕ) (fs : List Frame) → int_le (pos at) p ≡ false → filter (ends_by p) (placed (pos at) fs) ≡ []
none_ends (negsuc n) at [] past = refl
none_ends (negsuc n) at (f ∷ fs) past = none_ends (negsuc n) (at + aligned_length f) fs refl
none_ends (pos q) at fs past = keep_none q at fs (grind (arith, nat_tests))

pub ended_all : (p : ℤ) (at i : ℕ) (f : Frame) (fs : List Frame) → i < length fs → f ≡ get_or fs i f → int_le (pos (at + aligned_length f)) p ≡ false → ended_from p at i fs ≡ []
ended_all p at i f fs within is past = rw (rest_at fs i f within is, past) (ap frames_in (none_ends p (at + aligned_length f) (drop (i + 1) fs) past))

pub ended_more : (p : ℤ) (at i : ℕ) (f : Frame) (fs : List Frame) → i < length fs → f ≡ get_or fs i f → int_le (pos (at + aligned_length f)) p ≡ true
    → take (i + 1) fs ++ ended_from p (at + aligned_length f) (i + 1) fs ≡ take i fs ++ ended_from p at i fs
ended_more p at i f fs within is by =
    let next : take (i + 1) fs ≡ take i fs ++ f ∷ [] = rw (add-one, take-suc fs i f within) (ap (λ (g : Frame). take i fs ++ g ∷ []) (sym is)) in
    rw (next, rest_at fs i f within is, by) (append_assoc (take i fs) (f ∷ []) (ended_from p (at + aligned_length f) (i + 1) fs))

pub ended_none : (p : ℤ) (at i : ℕ) (fs : List Frame) → length fs ≤ i → take i fs ++ ended_from p at i fs ≡ take (length fs) fs
ended_none p at i fs past = rw (rest_past fs i past) (append-nil (take i fs) ∙ take_whole fs i past ∙ sym (take_whole fs (length fs) (omega arith)))

abbrev pub begun_from : ℤ → ℕ → ℕ → List Frame → List Frame
begun_from p at i fs = frames_in (filter (λ (f : PolledFrame). int_le p f.position) (placed (pos at) (drop i fs)))

pub begun_more : (p : ℤ) (at i : ℕ) (f : Frame) (fs : List Frame) → i < length fs → f ≡ get_or fs i f → int_lt (pos at) p ≡ true → begun_from p (at + aligned_length f) (i + 1) fs ≡ begun_from p at i fs
begun_more p at i f fs within is before = rw (rest_at fs i f within is, unreached p at before) refl

pub begun_none : (p : ℤ) (at i : ℕ) (fs : List Frame) → length fs ≤ i → begun_from p at i fs ≡ drop (length fs) fs
begun_none p at i fs past = rw (rest_past fs i past, rest_past fs (length fs) (omega arith)) refl
