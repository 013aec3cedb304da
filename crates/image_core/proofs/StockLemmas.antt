-- What is held stays within the stock.
use Rattle.std.proofs.Common.{◌≡◌, refl, ◌+◌, ◌*◌, ◌<◌, ◌≤◌, ℕ, pos, List, [], ◌∷◌, ◌++◌, true, false, Some, None, Bool, cond, arith}
use Rattle.std.specs.Prelude.{◌&&◌, ◌-◌, IfOk, MatchOption, OnErr, Option, Result, Ok, Err, length, max, min, unsigned_abs}
use Rattle.std.proofs.lemmas.Int.{ints}
use Rattle.frame_core.specs.declared.nak.Nak.{Nak}
use Rattle.frame_core.specs.declared.refusal.Refusal.{Refusal}
use Rattle.std.specs.List.{list_all}
use Rattle.std.specs.Ordering.{nat_cmp}
use Rattle.std.specs.BTreeMap.{insert_entry}
use Rattle.std.proofs.lemmas.Bool.Decides.{nat_tests}
use Rattle.frame_core.specs.declared.frame.Frame.{Frame}
use Rattle.frame_core.specs.declared.frame.FrameKind.{FrameKind}
use Rattle.frame_core.specs.declared.frame.FrameKind.TheVariants.{Heartbeat, Message, Pad}
use Rattle.frame_core.specs.declared.block.Block.{Block}
use Rattle.frame_core.specs.declared.block.Publication.{Publication}
use Rattle.frame_core.specs.declared.geometry.Geometry.{Geometry}
use Rattle.frame_core.specs.declared.setup.Setup.{Setup}
use Rattle.frame_core.specs.FrameEncoding.{HasLength, IsEncodable, aligned_length}
use Rattle.frame_core.specs.Position.{frame_position}
use Rattle.image_core.specs.declared.fate.Fate.TheVariants.{Drops, Joins}
use Rattle.image_core.specs.declared.inserted.Inserted.{Inserted}
use Rattle.image_core.specs.Insert.{TakesIn}
use Rattle.image_core.specs.Kept.{AreMembers, AreSpaced}
use Rattle.image_core.specs.Laws.{LieApart}
use Rattle.image_core.specs.Rebuild.{end_of}
use Rattle.image_core.specs.Received.{IsBegun, IsChain, Received, after_frame, fate_of, frame_fate, gap_end, heartbeat_fate, is_open, joining_position, rebuilt, received, received_all}
use Rattle.image_core.specs.Take.{GivesBlock, IsGap}
use Rattle.image_core.specs.Stock.{Asks, HoldsItsStock, are_near, ends_within, is_near, is_near_of, is_stocked, kept_bytes, kept_length, reach, stock_end}

-- nothing is held of what has just begun
pub begun_stock : (s : Setup) (r : Received) → IsBegun s r → HoldsItsStock r
begun_stock s r begun = rw begun.begins refl

-- one frame more
stock_insert : (limit p : ℕ) (f : Frame) (ms : List (ℕ × Frame)) → list_all (is_stocked limit) ms ≡ true → p + kept_length f ≤ limit
    → list_all (is_stocked limit) (insert_entry nat_cmp ms p f) ≡ true
stock_insert limit p f [] all fits = grind (arith, nat_tests)
stock_insert limit p f (m ∷ ms) all fits = grind (arith, nat_tests, stock_insert limit p f ms)

-- what is received of a frame that is near keeps the stock, and where it ends
pub record Keeps (old new : Received) : Type 0 where
  pub from : new.from ≡ old.from
  pub geometry : new.geometry ≡ old.geometry
  pub stock : HoldsItsStock new

-- where a frame may join, that is its position
joins_at : (g : Geometry) (publication : Publication) (f : Frame) (p : ℕ) → joining_position g publication f ≡ Some p → frame_position g f ≡ Some p
unfolding joining_position
joins_at g publication f p is = grind arith

keeps_joining : (r : Received) (f : Frame) (found : Option ℕ) → HoldsItsStock r → ((p : ℕ) → found ≡ Some p → p + kept_length f ≤ stock_end r) → Keeps r (after_frame r f (frame_fate r f found))
keeps_joining r f None stock fits = record { from = refl; geometry = refl; stock = stock }
keeps_joining r f (Some p) stock fits = joined (is_open r p (p + aligned_length f))
  where
    joined : (b : Bool) → Keeps r (after_frame r f (cond b (Joins p) Drops))
    joined true = record { from = refl; geometry = refl; stock = stock_insert (stock_end r) p f r.joined stock (fits p refl) }
    joined false = record { from = refl; geometry = refl; stock = stock }

near_ends : (limit size p : ℕ) (found : Option ℕ) → ends_within limit size found ≡ true → found ≡ Some p → p + size ≤ limit
near_ends limit size p None near is = absurd cc
near_ends limit size p (Some q) near is = let same : q ≡ p = cc in grind (arith, nat_tests)

keeps_told : (r : Received) (f : Frame) (found : Option ℕ) → HoldsItsStock r → Keeps r (after_frame r f (heartbeat_fate found))
keeps_told r f None stock = record { from = refl; geometry = refl; stock = stock }
keeps_told r f (Some p) stock = record { from = refl; geometry = refl; stock = stock }

keeps_of : (kind : FrameKind) (r : Received) (f : Frame) → f.kind ≡ kind → HoldsItsStock r → is_near_of kind r.geometry (stock_end r) f ≡ true → Keeps r (after_frame r f (fate_of kind r f))
keeps_of Pad r f is stock near =
    keeps_joining r f (joining_position r.geometry r.publication f) stock
    (λ p at. rw is (near_ends (stock_end r) 32 p (frame_position r.geometry f) near (joins_at r.geometry r.publication f p at)))
keeps_of Message r f is stock near =
    keeps_joining r f (joining_position r.geometry r.publication f) stock
    (λ p at. rw is (near_ends (stock_end r) (aligned_length f) p (frame_position r.geometry f) near (joins_at r.geometry r.publication f p at)))
keeps_of Heartbeat r f is stock near = keeps_told r f _ stock

both_true : (a b : Bool) → a && b ≡ true → (a ≡ true) × (b ≡ true)
both_true true b is = (refl, is)
both_true false b is = absurd cc

-- so do all frames of a datagram
pub keeps_all : (r : Received) (fs : List Frame) → HoldsItsStock r → are_near r fs ≡ true → HoldsItsStock (received_all r fs)
keeps_all r [] stock near = stock
keeps_all r (f ∷ fs) stock near =
    let parts = both_true (is_near r.geometry (stock_end r) f) (are_near r fs) near in
    let one = keeps_of f.kind r f refl stock parts.0 in
    keeps_all (received r f) fs one.stock (rw (one.geometry, one.from) parts.1)

-- the rest of what is held, where the stock goes further
stock_rest : (low high : ℕ) (taken ms : List (ℕ × Frame)) → low ≤ high → list_all (is_stocked low) (taken ++ ms) ≡ true → list_all (is_stocked high) ms ≡ true
stock_rest low high [] [] le all = refl
stock_rest low high [] (m ∷ ms) le all = grind (arith, nat_tests, stock_rest low high [] ms le)
stock_rest low high (x ∷ taken) ms le all = stock_rest low high taken ms le (both_true _ _ all).1

chain_up : (p q : ℕ) (ms : List (ℕ × Frame)) → IsChain p ms q → p ≤ q
chain_up p q [] chain = omega (arith, chain)
chain_up p q (m ∷ ms) chain = let low = chain_up (end_of m) q ms chain.2 in omega (arith, chain.0)

-- a block that is taken moves the stock on
pub taken_stock : (old : Received) (b : Block) (new : Received) → HoldsItsStock old → GivesBlock old b new → HoldsItsStock new
taken_stock old b new stock gives =
    stock_rest (stock_end old) (stock_end new) gives.takes.taken new.joined
    (let up = chain_up old.from new.from gives.takes.taken gives.takes.chain in omega arith)
    (rw (← gives.takes.left) stock)

-- the same, whatever a call answered
pub taken_any : (old new : Received) (result : Result (Option Block) Refusal) → HoldsItsStock old
    → IfOk result (λ found. MatchOption found ((rebuilt old ≡ old.from) × (new ≡ old)) (λ b. GivesBlock old b new)) → OnErr result (new ≡ old) → HoldsItsStock new
taken_any old new (Ok None) stock block same = rw block.1 stock
taken_any old new (Ok (Some b)) stock block same = taken_stock old b new stock block
taken_any old new (Err refusal) stock block same = rw same stock

pub offered_any : (old new : Received) (fs : List Frame) (result : Result Inserted Refusal) → HoldsItsStock old → are_near old fs ≡ true → IfOk result (λ i. TakesIn old fs i new)
    → OnErr result (new ≡ old) → HoldsItsStock new
offered_any old new fs (Ok i) stock near takes same = rw takes.after (keeps_all old fs stock near)
offered_any old new fs (Err refusal) stock near takes same = rw same stock

-- ---- how much is kept

-- a frame that may join covers what is kept of it, at least a header
record IsKept (f : Frame) : Type 0 where
  some : 32 ≤ kept_length f
  covered : kept_length f ≤ aligned_length f

kept_of : (kind : FrameKind) (f : Frame) → f.kind ≡ kind → HasLength kind f.length f.payload → (kind ≡ Heartbeat → ⊥) → IsKept f
kept_of Pad f is size held = record { some = rw is (omega arith); covered = rw is (omega (arith, ints, size.0)) }
kept_of Message f is size held = record { some = rw is (omega (arith, ints, size)); covered = rw is (omega arith) }
kept_of Heartbeat f is size held = absurd (held refl)

-- a heartbeat may not join
joins_kind : (g : Geometry) (publication : Publication) (f : Frame) (p : ℕ) → joining_position g publication f ≡ Some p → f.kind ≡ Heartbeat → ⊥
unfolding joining_position
joins_kind g publication f p at is = grind arith

kept : (g : Geometry) (publication : Publication) (f : Frame) (p : ℕ) → IsEncodable f → joining_position g publication f ≡ Some p → IsKept f
kept g publication f p encodable at = kept_of f.kind f refl encodable.length (joins_kind g publication f p at)

-- what is kept of frames that lie one after another, each within a limit, lies within the limit as a whole
kept_within : (g : Geometry) (publication : Publication) (low high limit : ℕ) (ms : List (ℕ × Frame)) → AreSpaced low high ms → AreMembers g publication ms
    → list_all (is_stocked limit) ms ≡ true → low + kept_bytes ms ≤ max low limit
kept_within g publication low high limit [] spaced members all = omega arith
kept_within g publication low high limit (m ∷ ms) spaced members all =
    let parts = both_true (is_stocked limit m) (list_all (is_stocked limit) ms) all in
    let here : m.0 + kept_length m.1 ≤ limit = grind (arith, nat_tests, parts.0) in
    let it = kept g publication m.1 m.0 members.0 members.1 in
    let rest = kept_within g publication (end_of m) high limit ms spaced.3 members.2 parts.1 in
    omega (arith, here, it.covered, rest, spaced.0)

-- a header of each frame is kept
kept_headers : (g : Geometry) (publication : Publication) (ms : List (ℕ × Frame)) → AreMembers g publication ms → 32 * length ms ≤ kept_bytes ms
kept_headers g publication [] members = omega arith
kept_headers g publication (m ∷ ms) members =
    let it = kept g publication m.1 m.0 members.0 members.1 in
    let rest = kept_headers g publication ms members.2 in omega (arith, it.some, rest)

-- an image keeps no more than its stock
pub kept_stock : (r : Received) → LieApart r.from r → HoldsItsStock r → kept_bytes r.joined ≤ 1048576
kept_stock r apart stock =
    let all = kept_within r.geometry r.publication r.from r.high (stock_end r) r.joined apart.spaced apart.members stock in omega (arith, all)

-- and so it holds few frames
pub kept_few : (r : Received) → LieApart r.from r → HoldsItsStock r → length r.joined ≤ 32768
kept_few r apart stock =
    let all = kept_stock r apart stock in
    let headers = kept_headers r.geometry r.publication r.joined apart.members in omega (arith, all, headers)

-- ---- requests

-- a gap that is cut where there is no room
pub asks_for : (r : Received) (gap n : Nak) (size : ℕ) → IsGap r gap → rebuilt r < reach r → size ≡ min (unsigned_abs gap.length) (reach r - rebuilt r) → n ≡ record gap { length = pos size } → Asks r n
asks_for r gap n size is room size_is same =
    let ends : rebuilt r + unsigned_abs gap.length ≡ gap_end r = omega (arith, ints, is.ends, is.range.covers) in
    rw same (record {
      missing = is.missing;
      room = omega (arith, ints, ends, is.range.covers, room);
      session_id = is.session_id;
      stream_id = is.stream_id;
      begins = is.begins;
      ends = omega (arith, ints, ends, size_is, room);
      range = record { begins = is.range.begins; covers = omega (arith, ints, size_is, room, is.range.covers) };
    })
