-- Blocks that follow one another, from an index of their list on.
use Rattle.std.proofs.Common.{◌≡◌, ◌<◌, ◌+◌, ◌+ℤ◌, ℕ, ℤ, pos, List, ◌∷◌, length, get_or, drop, subst, sym, arith}
use Rattle.std.proofs.lemmas.Int.{ints}
use Rattle.frame_core.specs.declared.block.Block.{Block}
use Rattle.frame_core.specs.declared.block.Publication.{Publication}
use Rattle.frame_core.specs.declared.geometry.Geometry.{Geometry}
use Rattle.frame_core.specs.Block.{IsBlock, covered, end_position}
use Rattle.archive_model.specs.Commands.{frames_of}
use Rattle.archive_model.specs.Acceptance.{AreBlocksFrom}
use Rattle.archive_model.proofs.ListLemmas.{rest_at}
use Rattle.archive_model.proofs.HistoriesLemmas.{covered-append}

-- the blocks behind one that lies where the one before ended
pub blocks_on : (g : Geometry) (publication : Publication) (at end : ℤ) (i : ℕ) (b : Block) (bs : List Block) → i < length bs → b ≡ get_or bs i b → end ≡ end_position b
    → AreBlocksFrom g publication at (drop i bs) → AreBlocksFrom g publication end (drop (i + 1) bs)
blocks_on g publication at end i b bs within is ends blocks =
    let here : AreBlocksFrom g publication at (b ∷ drop (i + 1) bs) = subst (AreBlocksFrom g publication at) (rest_at bs i b within is) blocks in
    subst (λ (z : ℤ). AreBlocksFrom g publication z (drop (i + 1) bs)) (sym ends) here.2

-- and back again
pub blocks_back : (g : Geometry) (publication : Publication) (at end : ℤ) (i : ℕ) (b : Block) (bs : List Block) → i < length bs → b ≡ get_or bs i b → end ≡ end_position b
    → IsBlock g publication b → b.position ≡ at → AreBlocksFrom g publication end (drop (i + 1) bs) → AreBlocksFrom g publication at (drop i bs)
blocks_back g publication at end i b bs within is ends block sum blocks =
    let rest : AreBlocksFrom g publication (end_position b) (drop (i + 1) bs) = subst (λ (z : ℤ). AreBlocksFrom g publication z (drop (i + 1) bs)) ends blocks in
    subst (AreBlocksFrom g publication at) (sym (rest_at bs i b within is)) (block, sum, rest)

-- where they end stays
pub blocks_sum : (at end total : ℤ) (i : ℕ) (b : Block) (bs : List Block) → i < length bs → b ≡ get_or bs i b → end ≡ end_position b → b.position ≡ at
    → at +ℤ pos (covered (frames_of (drop i bs))) ≡ total → end +ℤ pos (covered (frames_of (drop (i + 1) bs))) ≡ total
blocks_sum at end total i b bs within is ends sum whole =
    let here : at +ℤ pos (covered (frames_of (b ∷ drop (i + 1) bs))) ≡ total = subst (λ (xs : List Block). at +ℤ pos (covered (frames_of xs)) ≡ total) (rest_at bs i b within is) whole in
    let parts = covered-append b.frames (frames_of (drop (i + 1) bs)) in
    omega (arith, ints)
