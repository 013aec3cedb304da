-- How many frames that are held are the next messages of a block.
use Rattle.std.proofs.Common.{◌≡◌, refl, ◌+◌, ◌<◌, ◌≤◌, ℕ, List, [], ◌∷◌, Some, None, arith}
use Rattle.std.specs.Ordering.{nat_cmp}
use Rattle.std.specs.Map.{lookup}
use Rattle.std.specs.BTreeMap.{is_at}
use Rattle.std.proofs.lemmas.Bool.Decides.{nat_tests}
use Rattle.frame_core.specs.declared.block.BlockIds.{BlockIds}
use Rattle.frame_core.specs.declared.frame.Frame.{Frame}
use Rattle.image_core.specs.Rebuild.{end_of}
use Rattle.image_core.specs.Kept.{AreSpaced, MovesFirst, next_size, run_length, size_of_next}

-- no frame begins below what all are spaced from
none_below : (low high at : ℕ) (ms : List (ℕ × Frame)) → AreSpaced low high ms → at < low → lookup (is_at (nat_cmp at)) ms ≡ None
none_below low high at [] spaced below = refl
none_below low high at (m ∷ ms) spaced below = grind (arith, nat_tests, none_below (end_of m) high at ms spaced.3)

-- a run goes on with the frame at a position, if that is its next message
pub run_on_at : (ids : BlockIds) (low high at offset limit size : ℕ) (ms : List (ℕ × Frame)) → AreSpaced low high ms
    → size_of_next ids offset limit (lookup (is_at (nat_cmp at)) ms) ≡ Some size
    → run_length ids at offset limit ms ≡ run_length ids (at + size) (offset + size) limit ms + 1
run_on_at ids low high at offset limit size [] spaced is = absurd cc
run_on_at ids low high at offset limit size (m ∷ ms) spaced is = grind (arith, nat_tests, none_below (end_of m) high at ms spaced.3, run_on_at ids (end_of m) high at offset limit size ms spaced.3)

-- it ends where there is none
pub run_ends_at : (ids : BlockIds) (low high at offset limit : ℕ) (ms : List (ℕ × Frame)) → AreSpaced low high ms
    → size_of_next ids offset limit (lookup (is_at (nat_cmp at)) ms) ≡ None → run_length ids at offset limit ms ≡ 0
run_ends_at ids low high at offset limit [] spaced is = refl
run_ends_at ids low high at offset limit (m ∷ ms) spaced is = grind (arith, nat_tests, run_ends_at ids (end_of m) high at offset limit ms spaced.3)

-- the next message covers something, and ends in time
pub record IsNextMessage (high at offset limit size : ℕ) : Type 0 where
  pub some : 0 < size
  pub ends : at + size ≤ high
  pub few : offset + size ≤ limit

pub next_message : (ids : BlockIds) (low high at offset limit size : ℕ) (ms : List (ℕ × Frame)) → AreSpaced low high ms
    → size_of_next ids offset limit (lookup (is_at (nat_cmp at)) ms) ≡ Some size → IsNextMessage high at offset limit size
next_message ids low high at offset limit size [] spaced is = absurd cc
next_message ids low high at offset limit size (m ∷ ms) spaced is = grind (arith, nat_tests, next_message ids (end_of m) high at offset limit size ms spaced.3)

-- what lies below a position makes no difference
pub run_behind : (ids : BlockIds) (at offset limit : ℕ) (m : ℕ × Frame) (ms : List (ℕ × Frame)) → m.0 < at → run_length ids at offset limit (m ∷ ms) ≡ run_length ids at offset limit ms
run_behind ids at offset limit m ms below = grind (arith, nat_tests)

-- where the first frame is taken, the run is one shorter
pub run_first : (ids : BlockIds) (at offset limit size : ℕ) (before after : List (ℕ × Frame)) (old new : List Frame) → next_size ids at offset limit before ≡ Some size → MovesFirst before after old new
    → run_length ids at offset limit before ≡ run_length ids (at + size) (offset + size) limit after + 1
run_first ids at offset limit size before after old new is moves =
    let it = rw moves.is at is in
    rw moves.is (grind (arith, nat_tests, it))

-- the count goes on so
pub counts_on : (ids : BlockIds) (from offset limit covered size count all : ℕ) (ms : List (ℕ × Frame)) → all ≡ run_length ids (from + covered) (offset + covered) limit ms + count
    → run_length ids (from + covered) (offset + covered) limit ms ≡ run_length ids (from + covered + size) (offset + covered + size) limit ms + 1
    → all ≡ run_length ids (from + (covered + size)) (offset + (covered + size)) limit ms + (count + 1)
counts_on ids from offset limit covered size count all ms so goes =
    let p : from + covered + size ≡ from + (covered + size) = omega arith in
    let o : offset + covered + size ≡ offset + (covered + size) = omega arith in
    let more = rw (p, o) at goes in
    omega (arith, more, so)

-- and so does the room for what is left
pub room_on : (ids : BlockIds) (from offset limit covered size room : ℕ) (before after : List (ℕ × Frame)) (old new : List Frame) → next_size ids (from + covered) (offset + covered) limit before ≡ Some size
    → MovesFirst before after old new → run_length ids (from + covered) (offset + covered) limit before ≤ room + 1
    → run_length ids (from + (covered + size)) (offset + (covered + size)) limit after ≤ room
room_on ids from offset limit covered size room before after old new is moves fits =
    let p : from + covered + size ≡ from + (covered + size) = omega arith in
    let o : offset + covered + size ≡ offset + (covered + size) = omega arith in
    let more = rw (p, o) at (run_first ids (from + covered) (offset + covered) limit size before after old new is moves) in
    omega (arith, more)
