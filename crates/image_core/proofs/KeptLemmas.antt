-- What an image keeps stays so.
use Rattle.std.proofs.Common.{◌≡◌, ◌∙◌, ap, ◌+◌, ◌*◌, ◌<◌, ◌≤◌, ◌^◌, ℕ, ℤ, List, [], ◌∷◌, ◌++◌, true, Some, arith}
use Rattle.std.specs.Prelude.{max, unsigned_abs}
use Rattle.std.specs.Ordering.{nat_cmp}
use Rattle.std.specs.BTreeMap.{insert_entry}
use Rattle.std.proofs.lemmas.Int.{ints}
use Rattle.frame_core.specs.declared.frame.FrameKind.{FrameKind}
use Rattle.frame_core.specs.declared.frame.FrameKind.TheVariants.{Pad, Message, Heartbeat}
use Rattle.frame_core.specs.declared.frame.Frame.{Frame}
use Rattle.frame_core.specs.declared.block.Publication.{Publication}
use Rattle.frame_core.specs.declared.geometry.Geometry.{Geometry}
use Rattle.frame_core.specs.FrameEncoding.{HasLength, IsEncodable, aligned, aligned_length}
use Rattle.frame_core.specs.Position.{frame_position}
use Rattle.image_core.specs.declared.fate.Fate.TheVariants.{Joins}
use Rattle.image_core.specs.Rebuild.{chain_end}
use Rattle.image_core.specs.Received.{Received, after_frame, is_free, is_inside, is_of, is_open, is_within, joining_position, rebuilt, window}
use Rattle.image_core.specs.Kept.{AreSpaced, IsJoining, IsKeptImage, undone, without_positions}
use Rattle.image_core.proofs.ChainLemmas.{chain_high, chain_low, chain_more, spaced_wider}
use Rattle.image_core.proofs.JoinLemmas.{members_insert, remove_inserted, spaced_insert}
use Rattle.image_core.proofs.UndoLemmas.{without_push}

-- a frame may join only if it is of the publication, within the MTU and inside its term, and lies at its position
pub record IsAdmitted (g : Geometry) (publication : Publication) (f : Frame) (p : ℕ) : Type 0 where
  pub of : is_of publication f ≡ true
  pub within : is_within g.mtu f.kind f.length ≡ true
  pub inside : is_inside g f ≡ true
  pub position : frame_position g f ≡ Some p

pub admitted : (g : Geometry) (publication : Publication) (f : Frame) (p : ℕ) → joining_position g publication f ≡ Some p → IsAdmitted g publication f p
unfolding joining_position
admitted g publication f p is = record { of = grind arith; within = grind arith; inside = grind arith; position = grind arith }

size_by : (kind : FrameKind) (mtu size : ℤ) (payload : List ℕ) → HasLength kind size payload → is_within mtu kind size ≡ true → 0 < aligned (unsigned_abs size)
size_by Pad mtu size payload has within = omega (arith, ints, has.0)
size_by Message mtu size payload has within = rw has (omega arith)
size_by Heartbeat mtu size payload has within = absurd cc

-- a frame that may join covers something
pub has_size : (g : Geometry) (publication : Publication) (f : Frame) (p : ℕ) → IsEncodable f → joining_position g publication f ≡ Some p → 0 < aligned_length f
has_size g publication f p encodable lies =
    size_by f.kind g.mtu f.length f.payload encodable.length (admitted g publication f p lies).within

-- what an open range is
pub record IsOpen (r : Received) (p end : ℕ) : Type 0 where
  pub beyond : rebuilt r ≤ p
  pub within : end ≤ rebuilt r + window r.geometry
  pub free : is_free p end r.joined ≡ true

pub open_parts : (r : Received) (p end : ℕ) → is_open r p end ≡ true → IsOpen r p end
open_parts r p end is = record { beyond = grind arith; within = grind arith; free = grind arith }

-- what is kept lies below 2^61
pub record IsSmall (r : Received) (at : ℕ) : Type 0 where
  pub rebuilt : at ≤ r.high
  pub high : r.high ≤ 2 ^ 61
  pub spaced : AreSpaced 0 (2 ^ 62) r.joined
  pub from : AreSpaced r.from (2 ^ 62) r.joined

pub kept_small : (r : Received) (at : ℕ) → IsKeptImage r at → IsSmall r at
kept_small r at kept =
    let terms = kept.terms in
    let high : r.high ≤ 2 ^ 61 = omega (arith, ints, kept.limit, terms.most, terms.least) in
    record {
      rebuilt = rw kept.rebuilt (chain_high r.from r.from r.high r.joined kept.begins kept.spaced);
      high = high;
      spaced = spaced_wider r.from r.high 0 (2 ^ 62) r.joined (omega arith) (omega arith) kept.spaced;
      from = spaced_wider r.from r.high r.from (2 ^ 62) r.joined (omega arith) (omega arith) kept.spaced;
    }

pub kept_hear : (r : Received) (at p : ℕ) → IsKeptImage r at → p ≤ 2 ^ 31 * unsigned_abs r.geometry.term_length → IsKeptImage (record r { high = max r.high p }) at
kept_hear r at p kept room = record {
  terms = kept.terms;
  spaced = spaced_wider r.from r.high r.from (max r.high p) r.joined (omega arith) (omega arith) kept.spaced;
  members = kept.members;
  rebuilt = kept.rebuilt;
  begins = let begins = kept.begins in omega arith;
  limit = let limit = kept.limit in omega arith;
}

-- the frames are spaced as before, and the one more
pub spaced_join : (r : Received) (p : ℕ) (f : Frame) → AreSpaced r.from r.high r.joined → IsEncodable f → joining_position r.geometry r.publication f ≡ Some p
    → is_open r p (p + aligned_length f) ≡ true → AreSpaced r.from (max r.high (p + aligned_length f)) (insert_entry nat_cmp r.joined p f)
spaced_join r p f spaced encodable lies opens =
    let parts = open_parts r p (p + aligned_length f) opens in
    let low = chain_low r.from r.joined in
    spaced_insert r.from (max r.high (p + aligned_length f)) p f r.joined
    (spaced_wider r.from r.high r.from (max r.high (p + aligned_length f)) r.joined (omega arith) (omega arith) spaced)
    (let beyond = parts.beyond in omega arith)
    (has_size r.geometry r.publication f p encodable lies)
    (omega arith)
    parts.free

pub kept_join : (r : Received) (at p : ℕ) (f : Frame) → IsKeptImage r at → IsEncodable f → IsJoining r f p
    → IsKeptImage (after_frame r f (Joins p)) (chain_end at (insert_entry nat_cmp r.joined p f))
kept_join r at p f kept encodable joining =
    let parts = open_parts r p (p + aligned_length f) joining.opens in
    record {
      terms = kept.terms;
      spaced = spaced_join r p f kept.spaced encodable joining.lies joining.opens;
      members = members_insert r.geometry r.publication p f r.joined kept.members encodable joining.lies;
      rebuilt = ap (λ (q : ℕ). chain_end q (insert_entry nat_cmp r.joined p f)) kept.rebuilt ∙ chain_more r.from r.high r.from p f r.joined kept.spaced (omega arith) parts.beyond;
      begins = let begins = kept.begins in omega arith;
      limit = let limit = kept.limit in let room = joining.room in omega arith;
    }

-- the map in which it was put is wide enough to follow
pub wide_join : (r : Received) (at p : ℕ) (f : Frame) → IsKeptImage r at → IsEncodable f → IsJoining r f p → AreSpaced 0 (2 ^ 62) (insert_entry nat_cmp r.joined p f)
wide_join r at p f kept encodable joining =
    let terms = kept.terms in
    spaced_wider r.from (max r.high (p + aligned_length f)) 0 (2 ^ 62) (insert_entry nat_cmp r.joined p f) (omega arith)
    (omega (arith, ints, kept.limit, joining.room, terms.most, terms.least))
    (spaced_join r p f kept.spaced encodable joining.lies joining.opens)

-- a frame that joined and was noted goes out as it came in
pub undone_join : (ps noted : List ℕ) (high : ℕ) (r : Received) (at p : ℕ) (f : Frame) → IsKeptImage r at → IsEncodable f → IsJoining r f p → noted ≡ ps ++ p ∷ []
    → undone noted high (after_frame r f (Joins p)) ≡ undone ps high r
undone_join ps noted high r at p f kept encodable joining is =
    let parts = open_parts r p (p + aligned_length f) joining.opens in
    let size = has_size r.geometry r.publication f p encodable joining.lies in
    let goes : without_positions noted (insert_entry nat_cmp r.joined p f) ≡ without_positions ps r.joined =
    ap (λ (qs : List ℕ). without_positions qs (insert_entry nat_cmp r.joined p f)) is
    ∙ without_push ps p (insert_entry nat_cmp r.joined p f)
    ∙ ap (without_positions ps) (remove_inserted r.from r.high p f r.joined kept.spaced size parts.free) in
    ap (λ (ms : List (ℕ × Frame)). record r { joined = ms; high = high }) goes
