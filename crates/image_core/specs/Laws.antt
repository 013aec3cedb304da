-- What gives the rebuild position and the high-water mark their names: docs/PROTOCOL.md, "Images".
use Rattle.std.specs.Prelude.{◌≡◌, ◌≤◌, ℕ, max, if◌then◌else◌, List, [], ◌∷◌, ◌++◌, Option, None, Some, map, Contains}
use Rattle.std.specs.List.{AllByRecursion}
use Rattle.frame_core.specs.declared.frame.FrameKind.{FrameKind}
use Rattle.frame_core.specs.declared.frame.FrameKind.TheVariants.{Pad, Message, Heartbeat}
use Rattle.frame_core.specs.declared.frame.Frame.{Frame}
use Rattle.frame_core.specs.declared.block.Publication.{Publication}
use Rattle.frame_core.specs.declared.geometry.Geometry.{Geometry}
use Rattle.frame_core.specs.Position.{frame_position}
use Rattle.image_core.specs.Rebuild.{end_of}
use Rattle.image_core.specs.Received.{IsChain, Received, is_of, rebuilt}
use Rattle.image_core.specs.Kept.{AreMembers, AreSpaced}

-- no received frame lies over another, and none before the join position; each has an encoding, and is of the publication, within the MTU and inside its term, at its position
pub record LieApart (join : ℕ) (r : Received) : Type 0 where
  pub spaced : AreSpaced join r.high r.joined
  pub members : AreMembers r.geometry r.publication r.joined

-- received frames follow one another up to the rebuild position, and no further
pub record HasLongestChain (r : Received) : Type 0 where
  pub chain : List (ℕ × Frame)
  pub received : AllByRecursion (Contains r.joined) chain
  pub follows : IsChain r.from chain (rebuilt r)
  pub longest : (other : List (ℕ × Frame)) (end : ℕ) → AllByRecursion (Contains r.joined) other → IsChain r.from other end → end ≤ rebuilt r

-- the greatest of some numbers
abbrev pub greatest_of : List ℕ → ℕ
greatest_of [] = 0
greatest_of (n ∷ ns) = max n (greatest_of ns)

-- the position of a heartbeat
abbrev pub heartbeat_at : FrameKind → Option ℕ → List ℕ
heartbeat_at Pad found = []
heartbeat_at Message found = []
heartbeat_at Heartbeat None = []
heartbeat_at Heartbeat (Some p) = p ∷ []

-- the positions of a publication's heartbeats among some frames
abbrev pub heard : Geometry → Publication → List Frame → List ℕ
heard g publication [] = []
heard g publication (f ∷ fs) = heartbeat_at f.kind (if is_of publication f then frame_position g f else None) ++ heard g publication fs

-- the high-water mark is the greatest of the join position, the ends of the received frames, and the positions of the publication's heartbeats among all frames
abbrev pub HasHighWaterMark : ℕ → List Frame → Received → Type 0
HasHighWaterMark join fs r = r.high ≡ greatest_of (join ∷ map end_of r.joined ++ heard r.geometry r.publication fs)
