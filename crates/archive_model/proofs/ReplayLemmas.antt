-- Frames with where each begins, and those between two positions.
use Rattle.std.proofs.Common.{◌≡◌, ◌<◌, ◌≤◌, ◌+◌, ℕ, zero, suc, ℤ, pos, negsuc, ◌+ℤ◌, ◌≤ℤ◌, ◌<ℤ◌, T, Bool, true, false, cond, ◌&&◌, ◌||◌, List, [], ◌∷◌, ◌++◌, take, drop, filter, refl, ap, ◌∙◌, int_le, int_lt, nat_lt, arith}
use Rattle.std.proofs.lemmas.Int.{ints}
use Rattle.std.proofs.lemmas.Bool.Decides.{nat_tests, Decides-int_eq}
use Rattle.std.specs.Ordering.{int_eq}
use Rattle.std.specs.List.{list_any}
use Rattle.frame_core.specs.declared.frame.Frame.{Frame}
use Rattle.frame_core.specs.declared.block.Block.{Block}
use Rattle.frame_core.specs.FrameEncoding.{aligned_length}
use Rattle.frame_core.specs.Block.{covered}
use Rattle.archive_model.specs.declared.reply.PolledFrame.{PolledFrame}
use Rattle.archive_model.specs.State.{Recording, recorded_position}
use Rattle.archive_model.specs.Commands.{appended, frames_of}
use Rattle.archive_model.specs.Replay.{placed, placed_frames, frames_in, is_between, replayed, polled, EndBy}

abbrev pub begins_at : ℤ → List PolledFrame → Bool
begins_at p fs = list_any (λ f. int_eq p f.position) fs

or_none : (a b : Bool) → a ≡ false → b ≡ false → a || b ≡ false
or_none a b x y = rw (x, y) refl

pub apart : (m n : ℕ) → nat_lt m n ≡ true → int_eq (pos m) (pos n) ≡ false
apart m n below = grind (arith, nat_tests, Decides-int_eq (pos m) (pos n))

pub apart_above : (m n : ℕ) → nat_lt n m ≡ true → int_eq (pos m) (pos n) ≡ false
apart_above m n above = grind (arith, nat_tests, Decides-int_eq (pos m) (pos n))

-- behind a position no frame begins at it
pub none_behind : (p : ℤ) (at : ℕ) (fs : List Frame) → int_lt p (pos at) ≡ true → begins_at p (placed (pos at) fs) ≡ false
none_behind p at [] behind = refl
none_behind (negsuc k) at (f ∷ fs) behind = none_behind (negsuc k) (at + aligned_length f) fs refl
none_behind (pos k) at (f ∷ fs) behind =
    let further : nat_lt k (at + aligned_length f) ≡ true = grind (arith, nat_tests) in
    or_none (int_eq (pos k) (pos at)) _ (apart k at behind) (none_behind (pos k) (at + aligned_length f) fs further)

-- the frames from an index on, the first of them beginning at a position, that lie between two others
abbrev pub rest_between : ℤ → ℤ → ℕ → ℕ → List Frame → List PolledFrame
rest_between from bound at i fs = filter (is_between from bound) (placed (pos at) (drop i fs))

unkept : {X : Type 0} (a b : Bool) (xs ys : List X) → b ≡ false → cond (a && b) xs ys ≡ ys
unkept false b xs ys off = refl
unkept true b xs ys off = rw off refl

none_between : (from bound : ℤ) (at : ℕ) (fs : List Frame) → int_lt (pos at) bound ≡ false → filter (is_between from bound) (placed (pos at) fs) ≡ []
none_between from bound at [] past = refl
none_between from (negsuc k) at (f ∷ fs) past = unkept (int_le from (pos at)) false _ _ refl ∙ none_between from (negsuc k) (at + aligned_length f) fs refl
none_between from (pos k) at (f ∷ fs) past =
    let further : nat_lt (at + aligned_length f) k ≡ false = grind (arith, nat_tests) in
    unkept (int_le from (pos at)) (nat_lt at k) _ _ past ∙ none_between from (pos k) (at + aligned_length f) fs further

-- from the bound on, and at the end, there is none
pub past_bound : (from bound : ℤ) (at i : ℕ) (fs : List Frame) → int_lt (pos at) bound ≡ false → rest_between from bound at i fs ≡ []
past_bound from bound at i fs past = none_between from bound at (drop i fs) past

-- frames behind others begin where those end
pub placed-append : (at : ℤ) (fs gs : List Frame) → placed at (fs ++ gs) ≡ placed at fs ++ placed (at +ℤ pos (covered fs)) gs
placed-append at [] gs = let same : at ≡ at +ℤ pos 0 = omega (arith, ints) in ap (λ (z : ℤ). placed z gs) same
placed-append at (f ∷ fs) gs =
    let next : (at +ℤ pos (aligned_length f)) +ℤ pos (covered fs) ≡ at +ℤ pos (covered (f ∷ fs)) = omega (arith, ints) in
    ap (λ (xs : List PolledFrame). record { position = at; frame = f } ∷ xs)
    (placed-append (at +ℤ pos (aligned_length f)) fs gs ∙ ap (λ (z : ℤ). placed (at +ℤ pos (aligned_length f)) fs ++ placed z gs) next)

pub placed_appended : (blocks : List Block) (r : Recording) → placed_frames (appended blocks r) ≡ placed_frames r ++ placed (recorded_position r) (frames_of blocks)
placed_appended blocks r = placed-append r.descriptor.start_position r.frames (frames_of blocks)

true_of : (b : Bool) → T b → b ≡ true
true_of true t = refl
true_of false t = absurd t

-- all frames lie between a position that is not behind them and one that they do not reach
all_between : (from bound at : ℤ) (fs : List Frame) → from ≤ℤ at → (at +ℤ pos (covered fs)) <ℤ bound → frames_in (filter (is_between from bound) (placed at fs)) ≡ fs
all_between from bound at [] low high = refl
all_between from bound at (f ∷ fs) low high =
    let before : at <ℤ bound = omega (arith, ints) in
    let least : int_le from at ≡ true = true_of (int_le from at) low.le in
    let most : int_lt at bound ≡ true = true_of (int_lt at bound) before.lt in
    let rest : frames_in (filter (is_between from bound) (placed (at +ℤ pos (aligned_length f)) fs)) ≡ fs =
    all_between from bound (at +ℤ pos (aligned_length f)) fs (omega (arith, ints)) (omega (arith, ints)) in
    rw (least, most) (ap (λ (xs : List Frame). f ∷ xs) rest)

pub all_replayed : (r : Recording) (from bound : ℤ) → from ≤ℤ r.descriptor.start_position → recorded_position r <ℤ bound → replayed from bound r ≡ r.frames
all_replayed r from bound low high = all_between from bound r.descriptor.start_position r.frames low high

-- frames end where the last of them does at the latest, and so do those of them that are given

placed_end : (limit at : ℤ) (fs : List Frame) → (at +ℤ pos (covered fs)) ≤ℤ limit → EndBy limit (placed at fs)
placed_end limit at [] within = tt
placed_end limit at (f ∷ fs) within =
    let here : (at +ℤ pos (aligned_length f)) ≤ℤ limit = omega (arith, ints, within) in
    let rest : ((at +ℤ pos (aligned_length f)) +ℤ pos (covered fs)) ≤ℤ limit = omega (arith, ints, within) in
    (here, placed_end limit (at +ℤ pos (aligned_length f)) fs rest)

end_either : (limit : ℤ) (b : Bool) (f : PolledFrame) (rest : List PolledFrame) → (f.position +ℤ pos (aligned_length f.frame)) ≤ℤ limit → EndBy limit rest → EndBy limit (cond b (f ∷ rest) rest)
end_either limit true f rest here more = (here, more)
end_either limit false f rest here more = more

filter_end : (limit : ℤ) (p : PolledFrame → Bool) (fs : List PolledFrame) → EndBy limit fs → EndBy limit (filter p fs)
filter_end limit p [] ends = tt
filter_end limit p (f ∷ fs) ends = end_either limit (p f) f (filter p fs) ends.0 (filter_end limit p fs ends.1)

take_end : (limit : ℤ) (count : ℕ) (fs : List PolledFrame) → EndBy limit fs → EndBy limit (take count fs)
take_end limit zero fs ends = tt
take_end limit (suc count) [] ends = tt
take_end limit (suc count) (f ∷ fs) ends = (ends.0, take_end limit count fs ends.1)

-- a poll gives no frame that ends past the recorded position
pub polled_end : (next bound : ℤ) (count : ℕ) (r : Recording) → EndBy (recorded_position r) (polled next bound count r)
polled_end next bound count r =
    let least : recorded_position r ≤ℤ recorded_position r = omega (arith, ints) in
    take_end _ count _ (filter_end _ (is_between next bound) _ (placed_end _ r.descriptor.start_position r.frames least))
