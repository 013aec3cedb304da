-- Consumed and rebuild positions never fall.
use Rattle.std.proofs.Common.{◌≡◌, ◌∙◌, ap, refl, ◌+◌, ◌≤◌, ℕ, List, [], ◌∷◌, ◌++◌, true, Some, None, arith}
use Rattle.std.specs.Prelude.{Option}
use Rattle.std.specs.Ordering.{nat_cmp}
use Rattle.std.specs.BTreeMap.{insert_entry}
use Rattle.std.proofs.lemmas.Bool.{cond_both}
use Rattle.std.proofs.lemmas.Bool.Decides.{nat_tests}
use Rattle.frame_core.specs.declared.block.Block.{Block}
use Rattle.frame_core.specs.declared.frame.Frame.{Frame}
use Rattle.frame_core.specs.declared.frame.FrameKind.{FrameKind}
use Rattle.frame_core.specs.declared.frame.FrameKind.TheVariants.{Heartbeat, Message, Pad}
use Rattle.frame_core.specs.FrameEncoding.{aligned_length}
use Rattle.image_core.specs.declared.fate.Fate.{Fate}
use Rattle.image_core.specs.declared.fate.Fate.TheVariants.{Drops, Joins, Tells}
use Rattle.image_core.specs.declared.inserted.Inserted.{Inserted}
use Rattle.image_core.specs.Insert.{TakesIn}
use Rattle.image_core.specs.Rebuild.{chain_end, end_of}
use Rattle.image_core.specs.Received.{IsChain, Received, after_frame, fate, fate_of, frame_fate, heartbeat_fate, is_open, joining_position, rebuilt, received, received_all}
use Rattle.image_core.specs.Stock.{Offers}
use Rattle.image_core.specs.Take.{GivesBlock}
use Rattle.flow_control.specs.Progress.{MovesOn}

pub same : (r : Received) → MovesOn r r
same r = record { geometry = refl; publication = refl; consumed = omega arith; rebuilt = omega arith }

pub further : (r s t : Received) → MovesOn r s → MovesOn s t → MovesOn r t
further r s t one two = record {
  geometry = cc;
  publication = cc;
  consumed = omega (arith, one.consumed, two.consumed);
  rebuilt = omega (arith, one.rebuilt, two.rebuilt);
}

pub chain_low : (p : ℕ) (ms : List (ℕ × Frame)) → p ≤ chain_end p ms
chain_low p [] = omega arith
chain_low p (m ∷ ms) = grind (arith, chain_low p ms, chain_low (end_of m) ms)

-- a frame that is put in at or after a chain's end does not shorten it
insert_up : (p q : ℕ) (f : Frame) (ms : List (ℕ × Frame)) → chain_end p ms ≤ q → chain_end p ms ≤ chain_end p (insert_entry nat_cmp ms q f)
insert_up p q f [] beyond = grind arith
insert_up p q f (m ∷ ms) beyond =
    grind (arith, nat_tests, chain_low p ms, chain_low (end_of m) ms, chain_low (q + aligned_length f) ms, chain_low (q + aligned_length f) (m ∷ ms), insert_up p q f ms, insert_up (end_of m) q f ms)

open_beyond : (r : Received) (p end : ℕ) → is_open r p end ≡ true → rebuilt r ≤ p
open_beyond r p end is = grind arith

joining : (r : Received) (f : Frame) (found : Option ℕ) → MovesOn r (after_frame r f (frame_fate r f found))
joining r f None = same r
joining r f (Some p) =
    cond_both (is_open r p (p + aligned_length f)) (Joins p) Drops (λ it. MovesOn r (after_frame r f it))
    (λ opens. record { geometry = refl; publication = refl; consumed = omega arith; rebuilt = insert_up r.from p f r.joined (open_beyond r p (p + aligned_length f) opens) })
    (λ shut. same r)

heartbeat : (r : Received) (f : Frame) (found : Option ℕ) → MovesOn r (after_frame r f (heartbeat_fate found))
heartbeat r f None = same r
heartbeat r f (Some p) = record { geometry = refl; publication = refl; consumed = omega arith; rebuilt = omega arith }

kind : (k : FrameKind) (r : Received) (f : Frame) → MovesOn r (after_frame r f (fate_of k r f))
kind Pad r f = joining r f (joining_position r.geometry r.publication f)
kind Message r f = joining r f (joining_position r.geometry r.publication f)
kind Heartbeat r f = heartbeat r f _

all : (r : Received) (fs : List Frame) → MovesOn r (received_all r fs)
all r [] = same r
all r (f ∷ fs) = further r (received r f) (received_all (received r f) fs) (kind f.kind r f) (all (received r f) fs)

-- what is consumed, and of which terms, is as it was
pub record KeepsConsumed (old new : Received) : Type 0 where
  pub from : new.from ≡ old.from
  pub geometry : new.geometry ≡ old.geometry

after_keeps : (r : Received) (f : Frame) (it : Fate) → KeepsConsumed r (after_frame r f it)
after_keeps r f (Joins p) = record { from = refl; geometry = refl }
after_keeps r f (Tells p) = record { from = refl; geometry = refl }
after_keeps r f Drops = record { from = refl; geometry = refl }

pub keeps_consumed : (r : Received) (fs : List Frame) → KeepsConsumed r (received_all r fs)
keeps_consumed r [] = record { from = refl; geometry = refl }
keeps_consumed r (f ∷ fs) =
    let one = after_keeps r f (fate r f) in
    let rest = keeps_consumed (received r f) fs in record { from = rest.from ∙ one.from; geometry = rest.geometry ∙ one.geometry }

pub taken_in : (old new : Received) (fs : List Frame) (i : Inserted) → TakesIn old fs i new → MovesOn old new
taken_in old new fs i takes = rw takes.after (all old fs)

pub offered : (old new : Received) (fs : List Frame) (found : Option Inserted) → Offers old fs found new → MovesOn old new
offered old new fs None lost = rw lost.1 (same old)
offered old new fs (Some i) takes = taken_in old new fs i takes.1

-- ---- blocks

chain_up : (p q : ℕ) (ms : List (ℕ × Frame)) → IsChain p ms q → p ≤ q
chain_up p q [] chain = omega (arith, chain)
chain_up p q (m ∷ ms) chain = let low = chain_up (end_of m) q ms chain.2 in omega (arith, chain.0)

-- what is left of a chain ends where it did
chain_over : (p q : ℕ) (taken ms : List (ℕ × Frame)) → IsChain p taken q → chain_end p (taken ++ ms) ≡ chain_end q ms
chain_over p q [] ms chain = ap (λ (x : ℕ). chain_end x ms) chain
chain_over p q (m ∷ taken) ms chain = grind (arith, chain_over (end_of m) q taken ms chain.2)

pub given : (old new : Received) (b : Block) → GivesBlock old b new → MovesOn old new
given old new b gives =
    let takes = gives.takes in
    let left : chain_end old.from old.joined ≡ chain_end new.from new.joined =
    rw takes.left (chain_over old.from new.from takes.taken new.joined takes.chain) in
    record {
      geometry = ap (λ (r : Received). r.geometry) gives.same;
      publication = ap (λ (r : Received). r.publication) gives.same;
      consumed = chain_up old.from new.from takes.taken takes.chain;
      rebuilt = omega (arith, left);
    }
