-- Blocks that no frame behind them makes longer.
use Rattle.std.proofs.Common.{◌≡◌, ◌∙◌, sym, ap, refl, ◌+◌, ◌<◌, ◌≤◌, ℕ, ℤ, pos, List, [], ◌∷◌, ◌++◌, true, false, Some, None, ⊎_elim, arith}
use Rattle.std.specs.Prelude.{min, unsigned_abs}
use Rattle.std.proofs.lemmas.Bool.Decides.{Decides-int_eq, nat_tests}
use Rattle.std.proofs.lemmas.Int.{ints}
use Rattle.frame_core.specs.declared.block.BlockIds.{BlockIds}
use Rattle.frame_core.specs.declared.block.Publication.{Publication}
use Rattle.frame_core.specs.declared.frame.Frame.{Frame}
use Rattle.frame_core.specs.declared.frame.FrameKind.TheVariants.{Message, Pad}
use Rattle.frame_core.specs.declared.geometry.Geometry.{Geometry}
use Rattle.frame_core.specs.Block.{IsMessageBlock, IsPadBlock, block_ids, has_ids, is_part, run_end}
use Rattle.frame_core.specs.FrameEncoding.{IsEncodable, aligned_length}
use Rattle.frame_core.specs.Position.{HasPosition}
use Rattle.frame_core.proofs.PositionLemmas.{given}
use Rattle.image_core.specs.Rebuild.{end_of}
use Rattle.image_core.specs.Kept.{AreMembers, AreSpaced, next_size}
use Rattle.image_core.specs.Take.{IsLongest}
use Rattle.image_core.proofs.KeptLemmas.{IsAdmitted, admitted}

-- the first frame that is held, where a chain begins with it
pub record IsFirst (g : Geometry) (publication : Publication) (from high : ℕ) (m : ℕ × Frame) (behind : List (ℕ × Frame)) : Type 0 where
  pub begins : from ≡ m.0
  pub some : 0 < aligned_length m.1
  pub ends : end_of m ≤ high
  pub spaced : AreSpaced (end_of m) high behind
  pub encodable : IsEncodable m.1
  pub members : AreMembers g publication behind
  pub admitted : IsAdmitted g publication m.1 m.0
  pub position : HasPosition g m.1.term_id m.1.term_offset (pos from)
  pub inside : unsigned_abs m.1.term_offset + aligned_length m.1 ≤ unsigned_abs g.term_length

-- a run goes on with the frames behind those that it has come over
pub run_on : (ids : BlockIds) (offset end : ℕ) (fs others : List Frame) → run_end ids offset fs ≡ Some end → run_end ids offset (fs ++ others) ≡ run_end ids end others
run_on ids offset end [] others is = let same : offset ≡ end = cc in ap (λ (o : ℕ). run_end ids o others) same
run_on ids offset end (f ∷ fs) others is = grind (arith, run_on ids (offset + aligned_length f) end fs others)

-- what a part of a block has in common with it
pub record IsPart (ids : BlockIds) (offset : ℕ) (f : Frame) : Type 0 where
  pub begins : f.term_offset ≡ pos offset
  pub term : f.term_id ≡ ids.term_id

part_is : (ids : BlockIds) (offset : ℕ) (f : Frame) → is_part ids offset f ≡ true → IsPart ids offset f
unfolding is_part has_ids
part_is ids offset f is = record {
  begins = (Decides-int_eq f.term_offset (pos offset)).0 (grind arith);
  term = (Decides-int_eq f.term_id ids.term_id).0 (grind arith);
}

no_part : (ids : BlockIds) (offset : ℕ) (f : Frame) → f.kind ≡ Pad → is_part ids offset f ≡ false
unfolding is_part
no_part ids offset f pad = rw pad refl

-- nothing follows a pad in its block
pub pad_longest : (g : Geometry) (publication : Publication) (position : ℤ) (f : Frame) (after : List (ℕ × Frame)) → f.kind ≡ Pad → IsLongest g publication (f ∷ []) position after
pad_longest g publication position f [] pad = tt
pad_longest g publication position f (x ∷ xs) pad = λ block.
    ⊎_elim
    (λ (it : IsPadBlock g (block_ids g publication f) f (x.1 ∷ [])). let alone = it.alone in absurd (cc))
    (λ (it : IsMessageBlock g (block_ids g publication f) f (x.1 ∷ [])). let ends = rw (no_part (block_ids g publication f) it.offset f pad) at it.ends in absurd (cc))
    block.2

-- where two frames of one term lie
apart : (g : Geometry) (term_id first second : ℤ) (p q o e : ℕ) → HasPosition g term_id first (pos p) → HasPosition g term_id second (pos q) → first ≡ pos o → second ≡ pos e → q + o ≡ p + e
apart g term_id first second p q o e here there begins ends = omega (arith, ints, here.sum, there.sum)

-- messages of a block that were taken as far as they went: with the frame behind them they are none
pub message_longest : (g : Geometry) (publication : Publication) (from limit at e : ℕ) (f : Frame) (fs : List Frame) (after : List (ℕ × Frame)) → f.kind ≡ Message
    → HasPosition g f.term_id f.term_offset (pos from) → limit ≡ min (unsigned_abs f.term_offset + 65536) (unsigned_abs g.term_length)
    → run_end (block_ids g publication f) (unsigned_abs f.term_offset) (f ∷ fs) ≡ Some e → at + unsigned_abs f.term_offset ≡ from + e
    → next_size (block_ids g publication f) at e limit after ≡ None → AreMembers g publication after → IsLongest g publication (f ∷ fs) (pos from) after
message_longest g publication from limit at e f fs [] kind position limit_is run lies stops members = tt
message_longest g publication from limit at e f fs (x ∷ xs) kind position limit_is run lies stops members = λ block.
    ⊎_elim
    (λ (it : IsPadBlock g ids f (fs ++ x.1 ∷ [])). let pad = it.kind in absurd (cc))
    (λ (it : IsMessageBlock g ids f (fs ++ x.1 ∷ [])). longer it)
    block.2
  where
    ids : BlockIds
    ids = block_ids g publication f

    longer : IsMessageBlock g ids f (fs ++ x.1 ∷ []) → ⊥
    longer it =
        let offset : it.offset ≡ unsigned_abs f.term_offset = omega (arith, ints, it.begins) in
        let goes : run_end ids e (x.1 ∷ []) ≡ Some it.end = sym (run_on ids (unsigned_abs f.term_offset) e (f ∷ fs) (x.1 ∷ []) run) ∙ rw offset at it.ends in
        let part : is_part ids e x.1 ≡ true = grind (arith, goes) in
        let end : it.end ≡ e + aligned_length x.1 = grind (arith, goes) in
        let is = part_is ids e x.1 part in
        let there = rw is.term at (given g x.1.term_id x.1.term_offset x.0 (admitted g publication x.1 x.0 members.1).position) in
        let here : x.0 ≡ at = omega (arith, apart g f.term_id f.term_offset x.1.term_offset from x.0 it.offset e position there it.begins is.begins) in
        let few : e + aligned_length x.1 ≤ limit = omega (arith, ints, it.inside, it.covers, limit_is) in
        absurd (let no = rw (here, part) at stops in grind (arith, nat_tests, no))
