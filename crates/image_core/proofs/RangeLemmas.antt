-- What the first and the last frame of a range tell.
use Rattle.std.proofs.Common.{◌≡◌, refl, ◌+◌, ◌<◌, ◌≤◌, ℕ, List, [], ◌∷◌, ◌++◌, true, arith}
use Rattle.std.specs.Prelude.{nat_le}
use Rattle.std.specs.Ordering.{nat_cmp}
use Rattle.std.specs.BTreeMap.Range.{entries_between}
use Rattle.std.specs.declared.ops.Bound.TheVariants.{Included, Excluded, Unbounded}
use Rattle.std.proofs.lemmas.Bool.Decides.{nat_tests}
use Rattle.frame_core.specs.declared.frame.Frame.{Frame}
use Rattle.image_core.specs.Rebuild.{end_of, next_start}
use Rattle.image_core.specs.Received.{is_free}
use Rattle.image_core.specs.Kept.{AreSpaced}

-- the frames that begin before a position
abbrev pub before : ℕ → List (ℕ × Frame) → List (ℕ × Frame)
before end ms = entries_between nat_cmp Unbounded (Excluded end) ms

-- the frames that begin at a position or after it
abbrev pub since : ℕ → List (ℕ × Frame) → List (ℕ × Frame)
since p ms = entries_between nat_cmp (Included p) Unbounded ms

-- no frame begins before the range's end
pub free_none : (p end : ℕ) (ms : List (ℕ × Frame)) → before end ms ≡ [] → is_free p end ms ≡ true
free_none p end [] none = refl
free_none p end (m ∷ ms) none = grind (arith, nat_tests, free_none p end ms)

-- what the last frame tells that begins before the range's end
pub record IsLast (p end low high : ℕ) (ms : List (ℕ × Frame)) (e : ℕ × Frame) : Type 0 where
  pub free : is_free p end ms ≡ nat_le (end_of e) p
  pub begins : low ≤ e.0
  pub ends : end_of e ≤ high

pub free_last : (p end low high : ℕ) (ms t : List (ℕ × Frame)) (e : ℕ × Frame) → AreSpaced low high ms → before end ms ≡ t ++ e ∷ [] → IsLast p end low high ms e
free_last p end low high [] [] e spaced is = absurd cc
free_last p end low high [] (x ∷ t) e spaced is = absurd cc
free_last p end low high (m ∷ ms) [] e spaced is = grind (arith, nat_tests, free_none p end ms, free_last p end (end_of m) high ms [] e spaced.3)
free_last p end low high (m ∷ ms) (x ∷ t) e spaced is =
    grind (arith, nat_tests, free_last p end (end_of m) high ms t e spaced.3, free_last p end (end_of m) high ms (x ∷ t) e spaced.3)

pub next_none : (p other : ℕ) (ms : List (ℕ × Frame)) → since (p + 1) ms ≡ [] → next_start p other ms ≡ other
next_none p other [] none = refl
next_none p other (m ∷ ms) none = grind (arith, nat_tests, next_none p other ms)

pub next_some : (p other : ℕ) (ms t : List (ℕ × Frame)) (e : ℕ × Frame) → since (p + 1) ms ≡ e ∷ t → next_start p other ms ≡ e.0
next_some p other [] t e is = absurd cc
next_some p other (m ∷ ms) t e is = grind (arith, nat_tests, next_some p other ms t e)

-- what begins next begins past the position
pub next_beyond : (p other : ℕ) (ms : List (ℕ × Frame)) → p < other → p < next_start p other ms
next_beyond p other [] past = past
next_beyond p other (m ∷ ms) past = grind (arith, next_beyond p other ms)
