-- Blocks that are taken of the first frames that are held.
use Rattle.std.proofs.Common.{◌≡◌, ◌∙◌, sym, ap, refl, ◌+◌, ◌<◌, ◌≤◌, ◌≤ℤ◌, ◌^◌, ℕ, ℤ, pos, List, [], ◌∷◌, ◌++◌, true, Some, None, ◌⊎◌, inl, inr, append_assoc, arith}
use Rattle.std.specs.Prelude.{map, min, slice_get, unsigned_abs}
use Rattle.std.proofs.lemmas.Bool.{cond-true}
use Rattle.std.proofs.lemmas.Bool.Decides.{Decides-int_eq}
use Rattle.std.proofs.lemmas.Int.{ints}
use Rattle.std.proofs.lemmas.List.{map-append}
use Rattle.frame_core.specs.declared.block.Block.{Block}
use Rattle.frame_core.specs.declared.block.BlockIds.{BlockIds}
use Rattle.frame_core.specs.declared.block.Publication.{Publication}
use Rattle.frame_core.specs.declared.frame.Frame.{Frame}
use Rattle.frame_core.specs.declared.frame.FrameKind.{FrameKind}
use Rattle.frame_core.specs.declared.frame.FrameKind.TheVariants.{Heartbeat, Message, Pad}
use Rattle.frame_core.specs.declared.geometry.Geometry.{Geometry}
use Rattle.frame_core.specs.Block.{AreEncodable, IsMessageBlock, IsPadBlock, has_ids, is_part, block_ids, run_end}
use Rattle.frame_core.specs.FrameEncoding.{HasLength, aligned, aligned_length}
use Rattle.frame_core.proofs.PositionLemmas.{given}
use Rattle.image_core.specs.Rebuild.{chain_end, end_of}
use Rattle.image_core.specs.Received.{IsChain, Received, is_inside, is_of, is_within}
use Rattle.image_core.specs.Kept.{AreMembers, AreSpaced, HasTerms, IsKeptImage, MovesFirst, TakesMessages, block_length, next_size, run_length}
use Rattle.image_core.specs.Take.{GivesBlock, IsLongest, TakesBlock}
use Rattle.image_core.proofs.ChainLemmas.{chain_append, chain_below, chain_over}
use Rattle.image_core.proofs.RunLemmas.{run_behind}
use Rattle.image_core.proofs.ReceivedLemmas.{taken_stands}
use Rattle.image_core.proofs.KeptLemmas.{IsAdmitted, admitted}
use Rattle.image_core.proofs.LongestLemmas.{IsFirst, message_longest, pad_longest, run_on}

pub first_is : (g : Geometry) (publication : Publication) (from high : ℕ) (m : ℕ × Frame) (behind before : List (ℕ × Frame)) → before ≡ m ∷ behind → AreSpaced from high before
    → AreMembers g publication before → from < chain_end from before → IsFirst g publication from high m behind
unfolding is_inside
first_is g publication from high m behind before is spaced_all members_all some =
    let spaced = rw is at spaced_all in
    let members = rw is at members_all in
    let more = rw is at some in
    let begins : from ≡ m.0 = grind (arith, chain_below (end_of m) high from behind spaced.3) in
    let fits = admitted g publication m.1 m.0 members.1 in
    record {
      begins = begins;
      some = spaced.1;
      ends = spaced.2;
      spaced = spaced.3;
      encodable = members.0;
      members = members.2;
      admitted = fits;
      position = rw begins (given g m.1.term_id m.1.term_offset m.0 fits.position);
      inside = grind (arith, fits.inside);
    }

same_ids : (g : Geometry) (publication : Publication) (f : Frame) → is_of publication f ≡ true → has_ids (block_ids g publication f) f ≡ true
unfolding is_of has_ids
same_ids g publication f is = grind (arith, (Decides-int_eq f.term_id f.term_id).1 refl)

first_part : (g : Geometry) (publication : Publication) (f : Frame) (p offset : ℕ) → f.kind ≡ Message → IsAdmitted g publication f p → f.term_offset ≡ pos offset
    → is_part (block_ids g publication f) offset f ≡ true
unfolding is_part
first_part g publication f p offset kind fits begins =
    grind (arith, (Decides-int_eq f.term_offset (pos offset)).1 begins, same_ids g publication f fits.of, fits.within)

-- a frame that may join and is no message is a pad
pad_kind : (kind : FrameKind) (mtu size : ℤ) → (kind ≡ Pad) ⊎ (kind ≡ Heartbeat) → is_within mtu kind size ≡ true → kind ≡ Pad
pad_kind kind mtu size (inl pad) within = pad
pad_kind kind mtu size (inr heartbeat) within = absurd (let no = rw heartbeat at within in cc)

-- a message's aligned length in a block
message_size : (kind : FrameKind) (mtu size : ℤ) (payload : List ℕ) → kind ≡ Message → HasLength kind size payload → is_within mtu kind size ≡ true → mtu ≤ℤ pos 65504
    → aligned (unsigned_abs size) ≤ 65504
message_size kind mtu size payload message has within most =
    let length_is = rw message at has in
    let short = rw message at within in
    grind (arith, ints, length_is, short)

-- where a message that is first ends in its term
pub first_few : (g : Geometry) (publication : Publication) (from high limit : ℕ) (m : ℕ × Frame) (behind : List (ℕ × Frame)) → HasTerms g → IsFirst g publication from high m behind
    → m.1.kind ≡ Message → limit ≡ min (unsigned_abs m.1.term_offset + 65536) (unsigned_abs g.term_length) → unsigned_abs m.1.term_offset + aligned_length m.1 ≤ limit
first_few g publication from high limit m behind terms first kind limit_is =
    let size = message_size m.1.kind g.mtu m.1.length m.1.payload kind first.encodable.length first.admitted.within terms.mtu in
    omega (arith, first.inside, size, limit_is)

-- the first frame, as it is found
pub head_is : (ms : List (ℕ × Frame)) (m : ℕ × Frame) → slice_get ms 0 ≡ Some m → (behind : List (ℕ × Frame)) × (ms ≡ m ∷ behind)
head_is [] m is = absurd cc
head_is (x ∷ xs) m is = (xs, cc)

-- how many frames the block of a message has
pub length_is : (g : Geometry) (publication : Publication) (from high limit : ℕ) (m : ℕ × Frame) (behind before : List (ℕ × Frame)) → before ≡ m ∷ behind → IsFirst g publication from high m behind → m.1.kind ≡ Message
    → limit ≡ min (unsigned_abs m.1.term_offset + 65536) (unsigned_abs g.term_length)
    → block_length g publication before ≡ run_length (block_ids g publication m.1) (from + aligned_length m.1) (unsigned_abs m.1.term_offset + aligned_length m.1) limit behind + 1
length_is g publication from high limit m behind before is first kind limit_is = rw (is, kind, limit_is, first.begins) refl

-- the same, counted over all that are held
pub length_in : (g : Geometry) (publication : Publication) (from high limit : ℕ) (m : ℕ × Frame) (behind before : List (ℕ × Frame)) → before ≡ m ∷ behind → IsFirst g publication from high m behind → m.1.kind ≡ Message
    → limit ≡ min (unsigned_abs m.1.term_offset + 65536) (unsigned_abs g.term_length)
    → run_length (block_ids g publication m.1) (from + aligned_length m.1) (unsigned_abs m.1.term_offset + aligned_length m.1) limit before + 1 ≡ block_length g publication before
length_in g publication from high limit m behind before is first kind limit_is =
    let over = run_behind (block_ids g publication m.1) (from + aligned_length m.1) (unsigned_abs m.1.term_offset + aligned_length m.1) limit m behind (omega (arith, first.begins, first.some)) in
    ap (λ (n : ℕ). n + 1) (rw is over) ∙ sym (length_is g publication from high limit m behind before is first kind limit_is)

-- what is left where some of the first frames were taken, and that those have an encoding
members_rest : (g : Geometry) (publication : Publication) (taken after : List (ℕ × Frame)) → AreMembers g publication (taken ++ after) → AreMembers g publication after × AreEncodable (map (λ m. m.1) taken)
members_rest g publication [] after members = (members, tt)
members_rest g publication (m ∷ taken) after members = let rest = members_rest g publication taken after members.2 in (rest.0, (members.0, rest.1))

-- the first frame and those taken behind it, which are a block
takes_block : (g : Geometry) (publication : Publication) (from high to : ℕ) (m : ℕ × Frame) (behind before taken after : List (ℕ × Frame)) (given : List Frame) → before ≡ m ∷ behind
    → IsFirst g publication from high m behind → behind ≡ taken ++ after → IsChain (end_of m) taken to → given ≡ m.1 ∷ map (λ x. x.1) taken
    → IsPadBlock g (block_ids g publication m.1) m.1 (map (λ x. x.1) taken) ⊎ IsMessageBlock g (block_ids g publication m.1) m.1 (map (λ x. x.1) taken)
    → IsLongest g publication (m.1 ∷ map (λ x. x.1) taken) (pos from) after
    → TakesBlock g publication from before given to after
takes_block g publication from high to m behind before taken after given is first left chain frames block longest = record {
  taken = m ∷ taken;
  left = is ∙ ap (λ (ms : List (ℕ × Frame)). m ∷ ms) left;
  chain = (first.begins, first.some, chain);
  frames = frames;
  block = rw frames (first.position, (first.encodable, (members_rest g publication taken after (rw left at first.members)).1), block);
  longest = rw frames longest;
}

-- a pad that is first is a block
pub takes_pad : (g : Geometry) (publication : Publication) (from high : ℕ) (m : ℕ × Frame) (behind before : List (ℕ × Frame)) (given : List Frame) → HasTerms g → before ≡ m ∷ behind
    → IsFirst g publication from high m behind → (m.1.kind ≡ Pad) ⊎ (m.1.kind ≡ Heartbeat) → given ≡ m.1 ∷ [] → TakesBlock g publication from before given (from + aligned_length m.1) behind
takes_pad g publication from high m behind before given terms is first kind frames =
    takes_block g publication from high (from + aligned_length m.1) m behind before [] behind given is first refl (omega (arith, first.begins)) frames
    (inl (record {
      alone = refl;
      kind = pad_kind m.1.kind g.mtu m.1.length kind first.admitted.within;
      ids = same_ids g publication m.1 first.admitted.of;
      inside = omega (arith, ints, first.position.low, terms.least, first.inside);
    }))
    (pad_longest g publication (pos from) m.1 behind (pad_kind m.1.kind g.mtu m.1.length kind first.admitted.within))

-- a message that is first is a block with the messages that were taken behind it
pub takes_messages : (g : Geometry) (publication : Publication) (from high limit covered : ℕ) (m : ℕ × Frame) (behind before after : List (ℕ × Frame)) (lent given : List Frame) → HasTerms g
    → before ≡ m ∷ behind → IsFirst g publication from high m behind → m.1.kind ≡ Message → limit ≡ min (unsigned_abs m.1.term_offset + 65536) (unsigned_abs g.term_length) → lent ≡ m.1 ∷ []
    → TakesMessages (block_ids g publication m.1) (from + aligned_length m.1) (unsigned_abs m.1.term_offset + aligned_length m.1) limit behind lent covered after given
    → next_size (block_ids g publication m.1) (from + aligned_length m.1 + covered) (unsigned_abs m.1.term_offset + aligned_length m.1 + covered) limit after ≡ None
    → TakesBlock g publication from before given (from + aligned_length m.1 + covered) after
takes_messages g publication from high limit covered m behind before after lent given terms is first kind limit_is alone takes stops =
    let offset : ℕ = unsigned_abs m.1.term_offset in
    let begins : m.1.term_offset ≡ pos offset = omega (arith, ints, first.position.low) in
    let few = takes.few in
    let run : run_end (block_ids g publication m.1) offset (m.1 ∷ map (λ x. x.1) takes.taken) ≡ Some (offset + aligned_length m.1 + covered) =
    cond-true (is_part (block_ids g publication m.1) offset m.1) (run_end (block_ids g publication m.1) (offset + aligned_length m.1) (map (λ x. x.1) takes.taken)) None
    (first_part g publication m.1 m.0 offset kind first.admitted begins) ∙ takes.ends in
    takes_block g publication from high (from + aligned_length m.1 + covered) m behind before takes.taken after given is first takes.left
    (rw (sym first.begins) takes.chain)
    (takes.frames ∙ ap (λ (fs : List Frame). fs ++ map (λ x. x.1) takes.taken) alone)
    (inr (record {
      offset = offset;
      begins = begins;
      end = offset + aligned_length m.1 + covered;
      ends = run;
      inside = omega (arith, ints, few, limit_is, terms.least);
      covers = omega (arith, few, limit_is);
    }))
    (message_longest g publication from limit (from + aligned_length m.1 + covered) (offset + aligned_length m.1 + covered) m.1 (map (λ x. x.1) takes.taken) after kind first.position limit_is run
    (omega arith) stops (members_rest g publication takes.taken after (rw takes.left at first.members)).0)

-- some messages were taken, and what is left is spaced
pub record HasTaken (ids : BlockIds) (from offset limit : ℕ) (before : List (ℕ × Frame)) (old : List Frame) (covered : ℕ) (after : List (ℕ × Frame)) (new : List Frame) : Type 0 where
  pub takes : TakesMessages ids from offset limit before old covered after new
  pub spaced : AreSpaced (from + covered) (2 ^ 62) after

pub takes_more : (ids : BlockIds) (from offset limit covered size : ℕ) (before after rest : List (ℕ × Frame)) (old now new : List Frame) → HasTaken ids from offset limit before old covered after now
    → next_size ids (from + covered) (offset + covered) limit after ≡ Some size → MovesFirst after rest now new → HasTaken ids from offset limit before old (covered + size) rest new
takes_more ids from offset limit covered size before after rest old now new has found moves =
    let takes = has.takes in
    let m = moves.first in
    let it = rw moves.is at found in
    let covers : aligned_length m.1 ≡ size = grind (arith, it) in
    let spaced = rw moves.is at has.spaced in
    let end : end_of m ≡ from + (covered + size) = grind (arith, it) in
    record {
      takes = record {
        taken = takes.taken ++ m ∷ [];
        left = takes.left ∙ ap (λ (ms : List (ℕ × Frame)). takes.taken ++ ms) moves.is ∙ sym (append_assoc takes.taken (m ∷ []) rest);
        chain = chain_append from (from + covered) (from + (covered + size)) takes.taken (m ∷ []) takes.chain (grind (arith, it), spaced.1, end);
        ends = rw (map-append (λ (x : ℕ × Frame). x.1) takes.taken (m ∷ [])) (run_on ids offset (offset + covered) (map (λ x. x.1) takes.taken) (m.1 ∷ []) takes.ends
            ∙ cond-true (is_part ids (offset + covered) m.1) (Some (offset + covered + aligned_length m.1)) None (grind (arith, it)) ∙ ap (λ (n : ℕ). Some n) (omega (arith, covers)));
        few = grind (arith, it);
        frames = moves.behind ∙ ap (λ (fs : List Frame). fs ++ m.1 ∷ []) takes.frames ∙ append_assoc old (map (λ x. x.1) takes.taken) (m.1 ∷ [])
            ∙ ap (λ (fs : List Frame). old ++ fs) (sym (map-append (λ (x : ℕ × Frame). x.1) takes.taken (m ∷ [])));
      };
      spaced = rw (sym end) spaced.3;
    }

-- what is left of spaced frames where a chain of the first was taken
spaced_rest : (p q high : ℕ) (taken after : List (ℕ × Frame)) → AreSpaced p high (taken ++ after) → IsChain p taken q → p ≤ high → AreSpaced q high after × (q ≤ high)
spaced_rest p q high [] after spaced chain low = rw (sym chain) (spaced, low)
spaced_rest p q high (m ∷ taken) after spaced chain low = spaced_rest (end_of m) q high taken after spaced.3 chain.2 spaced.2

-- what is kept when a block was taken
pub kept_take : (r : Received) (at to : ℕ) (given : List Frame) (after : List (ℕ × Frame)) → IsKeptImage r at → TakesBlock r.geometry r.publication r.from r.joined given to after
    → IsKeptImage (record r { from = to; joined = after }) at
kept_take r at to given after kept takes =
    let rest = spaced_rest r.from to r.high takes.taken after (rw takes.left at kept.spaced) takes.chain kept.begins in
    record {
      terms = kept.terms;
      spaced = rest.0;
      members = (members_rest r.geometry r.publication takes.taken after (rw takes.left at kept.members)).0;
      rebuilt = kept.rebuilt ∙ ap (chain_end r.from) takes.left ∙ chain_over r.from to takes.taken after takes.chain;
      begins = rest.1;
      limit = kept.limit;
    }

-- a block that was taken is given
pub gives_block : (old new : Received) (b : Block) (given : List Frame) → b.position ≡ pos old.from → b.frames ≡ given
    → TakesBlock old.geometry old.publication old.from old.joined given new.from new.joined → new ≡ record old { from = new.from; joined = new.joined } → GivesBlock old b new
gives_block old new b given begins frames takes same = record {
  begins = begins;
  takes = rw frames takes;
  same = same;
  whole = λ all stands. taken_stands all old new takes.taken stands takes.chain takes.left same;
}
