-- The names of the rebuild position and the high-water mark.
use Rattle.std.proofs.Common.{sym, ◌≡◌, refl, subst, ◌+◌, ◌<◌, ◌≤◌, ◌⊎◌, ℕ, suc, List, [], ◌∷◌, ◌++◌, true, Some, None, append_assoc, append-nil, arith}
use Rattle.std.specs.Prelude.{◌==◌, Contains, map, max, Option, if◌then◌else◌}
use Rattle.std.proofs.lemmas.Bool.{cond_both}
use Rattle.std.proofs.lemmas.Bool.Decides.{nat_tests}
use Rattle.std.specs.List.{AllByRecursion}
use Rattle.std.proofs.lemmas.List.Elements.{Contains-append_cases, Contains-push_cases}
use Rattle.std.specs.Ordering.{nat_cmp}
use Rattle.std.specs.BTreeMap.{insert_entry}
use Rattle.frame_core.specs.declared.frame.FrameKind.{FrameKind}
use Rattle.frame_core.specs.declared.frame.FrameKind.TheVariants.{Heartbeat, Message, Pad}
use Rattle.frame_core.specs.declared.frame.Frame.{Frame}
use Rattle.frame_core.specs.declared.block.Publication.{Publication}
use Rattle.frame_core.specs.declared.geometry.Geometry.{Geometry}
use Rattle.frame_core.specs.Block.{AreEncodable}
use Rattle.frame_core.specs.FrameEncoding.{IsEncodable, aligned_length}
use Rattle.frame_core.specs.Position.{frame_position}
use Rattle.image_core.specs.declared.fate.Fate.{Fate}
use Rattle.image_core.specs.Rebuild.{end_of, chain_end}
use Rattle.image_core.specs.Received.{IsChain, Received, after_frame, begun, fate_of, frame_fate, heartbeat_fate, is_free, is_of, joining_position, received, received_all}
use Rattle.image_core.specs.Kept.{AreMembers, AreSpaced}
use Rattle.image_core.specs.Laws.{HasHighWaterMark, HasLongestChain, LieApart, greatest_of, heard, heartbeat_at}
use Rattle.image_core.proofs.ChainLemmas.{chain_low, spaced_wider}
use Rattle.image_core.proofs.FateLemmas.{by_joining_position}
use Rattle.image_core.proofs.JoinLemmas.{members_insert}
use Rattle.image_core.proofs.KeptLemmas.{has_size, open_parts, spaced_join}

-- one of the frames, at its position
abbrev IsAmong : ℕ × Frame → List (ℕ × Frame) → Type 0
IsAmong m [] = ⊥
IsAmong m (x ∷ xs) = (m ≡ x) ⊎ IsAmong m xs

among_of : (m : ℕ × Frame) (ms : List (ℕ × Frame)) → Contains ms m → IsAmong m ms
among_of m [] has = absurd (omega (arith, has.1))
among_of m (x ∷ ms) has = grind (arith, Contains-append_cases (x ∷ []) ms m has, Contains-push_cases [] x m, among_of m ms)

-- a chain goes on behind a frame that begins where it has come to, and a spaced frame covers something behind where they begin
record IsStep (low p : ℕ) (m : ℕ × Frame) (ms : List (ℕ × Frame)) : Type 0 where
  above : low ≤ m.0
  some : 0 < aligned_length m.1
  goes : p ≡ m.0 → chain_end (end_of m) ms ≡ chain_end p ms

among_step : (low high p : ℕ) (m : ℕ × Frame) (ms : List (ℕ × Frame)) → AreSpaced low high ms → IsAmong m ms → IsStep low p m ms
among_step low high p m [] spaced among = elim among [ ]
among_step low high p m (x ∷ ms) spaced among = grind (arith, among_step (end_of x) high p m ms spaced.3)

longest : (low high p end : ℕ) (ms other : List (ℕ × Frame)) → AreSpaced low high ms → AllByRecursion (Contains ms) other → IsChain p other end → end ≤ chain_end p ms
longest low high p end ms [] spaced among chain = let up = chain_low p ms in omega (arith, chain, up)
longest low high p end ms (m ∷ other) spaced among chain =
    subst (λ (q : ℕ). end ≤ q) ((among_step low high p m ms spaced (among_of m ms among.0)).goes chain.0) (longest low high (end_of m) end ms other spaced among.1 chain.2)

among_more : (x : ℕ × Frame) (xs ms : List (ℕ × Frame)) → AllByRecursion (Contains ms) xs → AllByRecursion (Contains (x ∷ ms)) xs
among_more x [] ms among = tt
among_more x (m ∷ xs) ms among = ((suc among.0.0, omega (arith, among.0.1), among.0.2), among_more x xs ms among.1)

-- the frames of the longest chain
record IsRun (p end : ℕ) (ms : List (ℕ × Frame)) : Type 0 where
  chain : List (ℕ × Frame)
  among : AllByRecursion (Contains ms) chain
  follows : IsChain p chain end

run : (low high p : ℕ) (ms : List (ℕ × Frame)) → AreSpaced low high ms → IsRun p (chain_end p ms) ms
run low high p [] spaced = record { chain = []; among = tt; follows = refl }
run low high p (m ∷ ms) spaced =
    let rest : (q : ℕ) → IsRun q (chain_end q ms) ms = λ q. run (end_of m) high q ms spaced.3 in
    cond_both (p == m.0) (end_of m) p (λ (q : ℕ). IsRun p (chain_end q ms) (m ∷ ms))
    (λ at. let on = rest (end_of m) in
    record { chain = m ∷ on.chain; among = ((0, omega arith, refl), among_more m on.chain ms on.among); follows = (grind arith, spaced.1, on.follows) })
    (λ apart. record { chain = (rest p).chain; among = among_more m (rest p).chain ms (rest p).among; follows = (rest p).follows })

-- the greatest of two lists of numbers
greatest_of-append : (xs ys : List ℕ) → greatest_of (xs ++ ys) ≡ max (greatest_of xs) (greatest_of ys)
greatest_of-append [] ys = omega arith
greatest_of-append (x ∷ xs) ys = let rest = greatest_of-append xs ys in omega arith

-- a frame that joined has an end among the others
ends_insert : (high p : ℕ) (f : Frame) (low : ℕ) (ms : List (ℕ × Frame)) → AreSpaced low high ms → 0 < aligned_length f → is_free p (p + aligned_length f) ms ≡ true
    → greatest_of (map end_of (insert_entry nat_cmp ms p f)) ≡ max (p + aligned_length f) (greatest_of (map end_of ms))
ends_insert high p f low [] spaced some free = omega arith
ends_insert high p f low (m ∷ ms) spaced some free = grind (arith, nat_tests, ends_insert high p f (end_of m) ms spaced.3)

-- what holds of what was received since it began, where these are the positions of the heartbeats
record HasGrown (g : Geometry) (u : Publication) (join : ℕ) (told : List ℕ) (r : Received) : Type 0 where
  geometry : r.geometry ≡ g
  publication : r.publication ≡ u
  from : r.from ≡ join
  spaced : AreSpaced r.from r.high r.joined
  members : AreMembers r.geometry r.publication r.joined
  high : r.high ≡ max join (max (greatest_of (map end_of r.joined)) (greatest_of told))

grown_place : (g : Geometry) (publication : Publication) (join : ℕ) (told : List ℕ) (r : Received) (f : Frame) → IsEncodable f → HasGrown g publication join told r
    → HasGrown g publication join told (after_frame r f (frame_fate r f (joining_position r.geometry r.publication f)))
grown_place g publication join told r f encodable so =
    by_joining_position (λ (it : Fate). HasGrown g publication join told (after_frame r f it)) r f (joining_position r.geometry r.publication f) refl
    (λ p lies opens.
    let ends = ends_insert r.high p f r.from r.joined so.spaced (has_size r.geometry r.publication f p encodable lies) (open_parts r p (p + aligned_length f) opens).free in
    record {
      geometry = so.geometry;
      publication = so.publication;
      from = so.from;
      spaced = spaced_join r p f so.spaced encodable lies opens;
      members = members_insert r.geometry r.publication p f r.joined so.members encodable lies;
      high = omega (arith, so.high, ends);
    })
    so

grown_heartbeat : (g : Geometry) (publication : Publication) (join : ℕ) (told : List ℕ) (r : Received) (f : Frame) (o : Option ℕ) → HasGrown g publication join told r
    → HasGrown g publication join (told ++ heartbeat_at Heartbeat o) (after_frame r f (heartbeat_fate o))
grown_heartbeat g publication join told r f None so = rw (append-nil told) so
grown_heartbeat g publication join told r f (Some p) so = record {
  geometry = so.geometry;
  publication = so.publication;
  from = so.from;
  spaced = spaced_wider r.from r.high r.from (max r.high p) r.joined (omega arith) (omega arith) so.spaced;
  members = so.members;
  high = omega (arith, so.high, greatest_of-append told (p ∷ []));
}

grown_kind : (g : Geometry) (publication : Publication) (join : ℕ) (told : List ℕ) (r : Received) (f : Frame) (kind : FrameKind) → IsEncodable f → HasGrown g publication join told r
    → HasGrown g publication join (told ++ heartbeat_at kind (if is_of publication f then frame_position g f else None)) (after_frame r f (fate_of kind r f))
grown_kind g publication join told r f Pad encodable so = rw (append-nil told) (grown_place g publication join told r f encodable so)
grown_kind g publication join told r f Message encodable so = rw (append-nil told) (grown_place g publication join told r f encodable so)
grown_kind g publication join told r f Heartbeat encodable so =
    let same : (if is_of r.publication f then frame_position r.geometry f else None) ≡ (if is_of publication f then frame_position g f else None) = rw (so.geometry, so.publication) refl in
    rw same (grown_heartbeat g publication join told r f (if is_of publication f then frame_position g f else None) so)

grown_all : (g : Geometry) (publication : Publication) (join : ℕ) (told : List ℕ) (r : Received) (fs : List Frame) → AreEncodable fs → HasGrown g publication join told r
    → HasGrown g publication join (told ++ heard g publication fs) (received_all r fs)
grown_all g publication join told r [] encodable so = rw (append-nil told) so
grown_all g publication join told r (f ∷ fs) encodable so =
    let now : List ℕ = heartbeat_at f.kind (if is_of publication f then frame_position g f else None) in
    rw (sym (append_assoc told now (heard g publication fs)))
    (grown_all g publication join (told ++ now) (received r f) fs encodable.1 (grown_kind g publication join told r f f.kind encodable.0 so))

grown : (g : Geometry) (publication : Publication) (join : ℕ) (fs : List Frame) → AreEncodable fs → HasGrown g publication join (heard g publication fs) (received_all (begun g publication join) fs)
grown g publication join fs encodable =
    grown_all g publication join [] (begun g publication join) fs encodable (record { geometry = refl; publication = refl; from = refl; spaced = tt; members = tt; high = omega arith })

pub longest_chain : (g : Geometry) (publication : Publication) (join : ℕ) (fs : List Frame) → AreEncodable fs → HasLongestChain (received_all (begun g publication join) fs)
longest_chain g publication join fs encodable =
    let r : Received = received_all (begun g publication join) fs in
    let spaced = (grown g publication join fs encodable).spaced in
    let it = run r.from r.high r.from r.joined spaced in
    record { chain = it.chain; received = it.among; follows = it.follows; longest = λ other end. longest r.from r.high r.from end r.joined other spaced }

pub high_water_mark : (g : Geometry) (publication : Publication) (join : ℕ) (fs : List Frame) → AreEncodable fs → HasHighWaterMark join fs (received_all (begun g publication join) fs)
high_water_mark g publication join fs encodable =
    let r : Received = received_all (begun g publication join) fs in
    let so = grown g publication join fs encodable in
    rw (so.geometry, so.publication) (omega (arith, so.high, greatest_of-append (map end_of r.joined) (heard g publication fs)))

pub lie_apart : (g : Geometry) (publication : Publication) (join : ℕ) (fs : List Frame) → AreEncodable fs → LieApart join (received_all (begun g publication join) fs)
lie_apart g publication join fs encodable =
    let so = grown g publication join fs encodable in
    let spaced = rw so.from at so.spaced in record { spaced = spaced; members = so.members }
