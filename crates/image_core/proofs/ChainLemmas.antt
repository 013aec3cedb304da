-- Chains of frames that are spaced.
use Rattle.std.proofs.Common.{◌≡◌, ap, refl, ◌+◌, ◌<◌, ◌≤◌, ℕ, List, [], ◌∷◌, ◌++◌, Some, None, arith}
use Rattle.std.specs.Ordering.{nat_cmp}
use Rattle.std.specs.Map.{lookup}
use Rattle.std.specs.BTreeMap.{insert_entry, is_at}
use Rattle.std.proofs.lemmas.Bool.Decides.{nat_tests}
use Rattle.frame_core.specs.declared.frame.Frame.{Frame}
use Rattle.frame_core.specs.FrameEncoding.{aligned_length}
use Rattle.image_core.specs.Rebuild.{chain_end, end_of}
use Rattle.image_core.specs.Received.{IsChain}
use Rattle.image_core.specs.Kept.{AreSpaced}

-- what is spaced within some positions is spaced within positions further apart
pub spaced_wider : (low high less higher : ℕ) (ms : List (ℕ × Frame)) → less ≤ low → high ≤ higher → AreSpaced low high ms → AreSpaced less higher ms
spaced_wider low high less higher [] below above spaced = tt
spaced_wider low high less higher (m ∷ ms) below above spaced = grind (arith, spaced_wider (end_of m) high (end_of m) higher ms)

pub chain_up : (p q : ℕ) (ms : List (ℕ × Frame)) → IsChain p ms q → p ≤ q
chain_up p q [] chain = omega (arith, chain)
chain_up p q (m ∷ ms) chain = let low = chain_up (end_of m) q ms chain.2 in omega (arith, chain.0)

-- one chain behind another
pub chain_append : (p q e : ℕ) (taken more : List (ℕ × Frame)) → IsChain p taken q → IsChain q more e → IsChain p (taken ++ more) e
chain_append p q e [] more chain next = rw chain next
chain_append p q e (m ∷ ms) more chain next = (chain.0, chain.1, chain_append (end_of m) q e ms more chain.2 next)

pub chain_over : (p q : ℕ) (taken ms : List (ℕ × Frame)) → IsChain p taken q → chain_end p (taken ++ ms) ≡ chain_end q ms
chain_over p q [] ms chain = ap (λ (x : ℕ). chain_end x ms) chain
chain_over p q (m ∷ taken) ms chain = grind (arith, chain_over (end_of m) q taken ms chain.2)

pub chain_low : (p : ℕ) (ms : List (ℕ × Frame)) → p ≤ chain_end p ms
chain_low p [] = omega arith
chain_low p (m ∷ ms) = grind (arith, chain_low p ms, chain_low (end_of m) ms)

pub chain_high : (low p high : ℕ) (ms : List (ℕ × Frame)) → p ≤ high → AreSpaced low high ms → chain_end p ms ≤ high
chain_high low p high [] from spaced = from
chain_high low p high (m ∷ ms) from spaced = grind (arith, chain_high (end_of m) (end_of m) high ms spaced.2 spaced.3, chain_high (end_of m) p high ms from spaced.3)

-- no frame begins there
pub chain_none : (p : ℕ) (ms : List (ℕ × Frame)) → lookup (is_at (nat_cmp p)) ms ≡ None → chain_end p ms ≡ p
chain_none p [] none = refl
chain_none p (m ∷ ms) none = grind (arith, nat_tests, chain_none p ms)

-- nothing begins below what all are spaced from
pub chain_below : (low high p : ℕ) (ms : List (ℕ × Frame)) → AreSpaced low high ms → p < low → chain_end p ms ≡ p
chain_below low high p [] spaced below = refl
chain_below low high p (m ∷ ms) spaced below = grind (arith, chain_below (end_of m) high p ms spaced.3)

-- what is found lies above what all are spaced from, covers something, ends in time, and a chain goes on behind it
pub record IsFound (low high p : ℕ) (f : Frame) (ms : List (ℕ × Frame)) : Type 0 where
  pub above : low ≤ p
  pub some : 0 < aligned_length f
  pub ends : p + aligned_length f ≤ high
  pub goes : chain_end (p + aligned_length f) ms ≡ chain_end p ms

pub found : (low high p : ℕ) (f : Frame) (ms : List (ℕ × Frame)) → AreSpaced low high ms → lookup (is_at (nat_cmp p)) ms ≡ Some f → IsFound low high p f ms
found low high p f [] spaced is = absurd cc
found low high p f (m ∷ ms) spaced is = grind (arith, nat_tests, found (end_of m) high p f ms spaced.3)

-- after a frame joined at or after a chain's end, the chain from its start ends where the one from its end does
pub chain_more : (low high p q : ℕ) (f : Frame) (ms : List (ℕ × Frame)) → AreSpaced low high ms → p ≤ low → chain_end p ms ≤ q
    → chain_end (chain_end p ms) (insert_entry nat_cmp ms q f) ≡ chain_end p (insert_entry nat_cmp ms q f)
chain_more low high p q f [] spaced from beyond = refl
chain_more low high p q f (m ∷ ms) spaced from beyond =
    grind (arith, nat_tests, chain_low (end_of m) ms, chain_below (end_of m) high p ms spaced.3, chain_more (end_of m) high (end_of m) q f ms spaced.3)
