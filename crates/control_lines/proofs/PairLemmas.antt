-- Every second byte of two neighbouring runs of 32.
use Rattle.std.proofs.Common.{◌≡◌, ℕ, zero, suc, ◌+◌, ◌-◌, ◌*◌, ◌<◌, ◌≤◌, ◌++◌, List, [], ◌∷◌, length, slice_index, inl, inr, arith, ◌∙◌, ap}
use Rattle.std.proofs.lemmas.Bool.{cases_lt}
use Rattle.std.proofs.lemmas.List.{get_or_append_left, get_or-append_right}
use Rattle.std.proofs.lemmas.Simd.{get_or-chunk, length-chunk}
use lib.Lanes.{chunk}

-- so many elements, each the second behind the one before
abbrev pub every_second : List ℕ → ℕ → ℕ → List ℕ
every_second xs at zero = []
every_second xs at (suc n) = slice_index xs at ∷ every_second xs (at + 2) n

every_second_at : (xs : List ℕ) (at n k : ℕ) → k < n → slice_index (every_second xs at n) k ≡ slice_index xs (at + 2 * k)
every_second_at xs at zero k within = absurd (omega (arith, within))
every_second_at xs at (suc n) zero within = let e : at ≡ at + 2 * 0 = omega arith in ap (slice_index xs) e
every_second_at xs at (suc n) (suc k) within =
    let e : at + 2 + 2 * k ≡ at + 2 * suc k = omega arith in
    every_second_at xs (at + 2) n k (omega (arith, within)) ∙ ap (slice_index xs) e

joined_at : (text : List ℕ) (from j : ℕ) → from + 64 ≤ length text → j < 64
    → slice_index (chunk from 32 text ++ chunk (from + 32) 32 text) j ≡ slice_index text (from + j)
joined_at text from j room within =
    let long = length-chunk from 32 text (omega (arith, room)) in
    elim (cases_lt j 32) [
      | inl front ↦ get_or_append_left (chunk from 32 text) _ 0 j (omega (arith, long, front)) ∙ get_or-chunk from 32 text j 0 front
      | inr back ↦
          let at : from + 32 + (j - 32) ≡ from + j = omega (arith, back) in
          get_or-append_right (chunk from 32 text) _ 32 j 0 long back
          ∙ get_or-chunk (from + 32) 32 text (j - 32) 0 (omega (arith, within, back)) ∙ ap (slice_index text) at
    ]

pub pair_at : (text : List ℕ) (from at k : ℕ) → from + 64 ≤ length text → at < 2 → k < 32
    → slice_index (every_second (chunk from 32 text ++ chunk (from + 32) 32 text) at 32) k ≡ slice_index text (from + (at + 2 * k))
pair_at text from at k room low within =
    every_second_at _ at 32 k within ∙ joined_at text from (at + 2 * k) room (omega (arith, low, within))
