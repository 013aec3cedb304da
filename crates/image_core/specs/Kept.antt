-- What holds of the frames that an image keeps.
use Rattle.std.specs.Prelude.{◌≡◌, ◌<◌, ◌≤◌, ◌^◌, ◌*◌, ◌≤ℤ◌, ◌==◌, ◌&&◌, ℕ, pos, min, nat_le, nat_lt, unsigned_abs, Bool, if◌then◌else◌, List, [], ◌∷◌, ◌++◌, map, Option, None, Some, true, ◌+◌}
use Rattle.std.specs.Ordering.{nat_cmp}
use Rattle.std.specs.Map.{remove_entry}
use Rattle.std.specs.BTreeMap.{is_at}
use Rattle.frame_core.specs.declared.frame.Frame.{Frame}
use Rattle.frame_core.specs.declared.frame.FrameKind.{FrameKind}
use Rattle.frame_core.specs.declared.frame.FrameKind.TheVariants.{Heartbeat, Message, Pad}
use Rattle.frame_core.specs.declared.block.Publication.{Publication}
use Rattle.frame_core.specs.declared.geometry.Geometry.{Geometry}
use Rattle.frame_core.specs.declared.block.BlockIds.{BlockIds}
use Rattle.frame_core.specs.Block.{block_ids, is_part, run_end}
use Rattle.frame_core.specs.FrameEncoding.{IsEncodable, aligned_length}
use Rattle.image_core.specs.Rebuild.{end_of, chain_end}
use Rattle.image_core.specs.declared.fate.Fate.{Fate}
use Rattle.image_core.specs.declared.fate.Fate.TheVariants.{Joins, Tells, Drops}
use Rattle.image_core.specs.Received.{IsChain, Received, is_open, joining_position}

-- by rising position from one on, each of some size, none over another, and ending at most at another position
abbrev pub AreSpaced : ℕ → ℕ → List (ℕ × Frame) → Type 0
AreSpaced low high [] = Unit {0}
AreSpaced low high (m ∷ ms) = (low ≤ m.0) × (0 < aligned_length m.1) × (end_of m ≤ high) × AreSpaced (end_of m) high ms

-- each has an encoding, and lies where it may join
abbrev pub AreMembers : Geometry → Publication → List (ℕ × Frame) → Type 0
AreMembers g publication [] = Unit {0}
AreMembers g publication (m ∷ ms) = IsEncodable m.1 × (joining_position g publication m.1 ≡ Some m.0) × AreMembers g publication ms

-- a term and a message have so many bytes
pub record HasTerms (g : Geometry) : Type 0 where
  pub least : pos 65536 ≤ℤ g.term_length
  pub most : g.term_length ≤ℤ pos 1073741824
  pub mtu : g.mtu ≤ℤ pos 65504

-- what an image keeps, with its rebuild position at hand
pub record IsKeptImage (r : Received) (at : ℕ) : Type 0 where
  pub terms : HasTerms r.geometry
  pub spaced : AreSpaced r.from r.high r.joined
  pub members : AreMembers r.geometry r.publication r.joined
  pub rebuilt : at ≡ chain_end r.from r.joined
  pub begins : r.from ≤ r.high
  pub limit : r.high ≤ 2 ^ 31 * unsigned_abs r.geometry.term_length

-- the frames that are left, where those at some positions go, the last position first
abbrev pub without_positions : List ℕ → List (ℕ × Frame) → List (ℕ × Frame)
without_positions [] ms = ms
without_positions (p ∷ ps) ms = remove_entry (is_at (nat_cmp p)) (without_positions ps ms)

-- as it was before some frames joined, whose positions these are
abbrev pub undone : List ℕ → ℕ → Received → Received
undone ps high r = record r { joined = without_positions ps r.joined; high = high }

-- a frame joins at a position, inside the stream
pub record IsJoining (r : Received) (f : Frame) (p : ℕ) : Type 0 where
  pub lies : joining_position r.geometry r.publication f ≡ Some p
  pub opens : is_open r p (p + aligned_length f) ≡ true
  pub room : p + aligned_length f ≤ 2 ^ 31 * unsigned_abs r.geometry.term_length

-- what becomes of a frame stays inside the stream
abbrev pub IsComing : Received → Frame → Fate → Type 0
IsComing r f (Joins p) = IsJoining r f p
IsComing r f (Tells p) = p ≤ 2 ^ 31 * unsigned_abs r.geometry.term_length
IsComing r f Drops = Unit {0}

-- the frame that begins at a position is the next message of a block, at an offset in its term and within a limit there
abbrev pub is_next_at : BlockIds → ℕ → ℕ → ℕ → ℕ × Frame → Bool
is_next_at ids at offset limit m = (m.0 == at) && is_part ids offset m.1 && nat_le (offset + aligned_length m.1) limit

-- how many bytes the first frame covers, if it is the next message of a block: at a position, at an offset in its term, and within a limit there
abbrev pub next_size : BlockIds → ℕ → ℕ → ℕ → List (ℕ × Frame) → Option ℕ
next_size ids at offset limit [] = None
next_size ids at offset limit (m ∷ ms) =
    if is_next_at ids at offset limit m then Some (aligned_length m.1) else None

-- how many frames from a position on are the next messages of a block
abbrev pub run_length : BlockIds → ℕ → ℕ → ℕ → List (ℕ × Frame) → ℕ
run_length ids at offset limit [] = 0
run_length ids at offset limit (m ∷ ms) =
    if nat_lt m.0 at then run_length ids at offset limit ms
    else (if is_next_at ids at offset limit m then run_length ids (end_of m) (offset + aligned_length m.1) limit ms + 1 else 0)

-- how many bytes a frame covers, if it is the next message of a block, at an offset in its term and within a limit there
abbrev pub size_of_next : BlockIds → ℕ → ℕ → Option Frame → Option ℕ
size_of_next ids offset limit None = None
size_of_next ids offset limit (Some f) = if is_part ids offset f && nat_le (offset + aligned_length f) limit then Some (aligned_length f) else None

-- how many frames the block has that begins with the first
abbrev pub more_behind : FrameKind → Geometry → Publication → ℕ × Frame → List (ℕ × Frame) → ℕ
more_behind Pad g publication m ms = 0
more_behind Heartbeat g publication m ms = 0
more_behind Message g publication m ms =
    let offset : ℕ = unsigned_abs m.1.term_offset in
    run_length (block_ids g publication m.1) (end_of m) (offset + aligned_length m.1) (min (offset + 65536) (unsigned_abs g.term_length)) ms

abbrev pub block_length : Geometry → Publication → List (ℕ × Frame) → ℕ
block_length g publication [] = 0
block_length g publication (m ∷ ms) = more_behind m.1.kind g publication m ms + 1

-- the first frame was moved behind the frames of a list
pub record MovesFirst (before after : List (ℕ × Frame)) (old new : List Frame) : Type 0 where
  pub first : ℕ × Frame
  pub is : before ≡ first ∷ after
  pub behind : new ≡ old ++ first.1 ∷ []

-- the first frames were moved behind those of a list: messages of a block that follow one another from a position and an offset in their term up to a limit, and cover so many bytes
pub record TakesMessages (ids : BlockIds) (from offset limit : ℕ) (before : List (ℕ × Frame)) (old : List Frame) (covered : ℕ) (after : List (ℕ × Frame)) (new : List Frame) : Type 0 where
  pub taken : List (ℕ × Frame)
  pub left : before ≡ taken ++ after
  pub chain : IsChain from taken (from + covered)
  pub ends : run_end ids offset (map (λ m. m.1) taken) ≡ Some (offset + covered)
  pub few : offset + covered ≤ limit
  pub frames : new ≡ old ++ map (λ m. m.1) taken
