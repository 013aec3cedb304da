-- The frames that an image received, over all datagrams in order: docs/PROTOCOL.md, "Images".
use Rattle.std.specs.Prelude.{◌≡◌, ◌<◌, ◌+◌, ◌++◌, ◌/◌, ◌||◌, ◌&&◌, ℕ, ℤ, pos, max, min, nat_le, int_le, unsigned_abs, Bool, true, false, if◌then◌else◌, List, [], ◌∷◌, Option, None, Some}
use Rattle.std.specs.Ordering.{nat_cmp, int_eq}
use Rattle.std.specs.BTreeMap.{insert_entry}
use Rattle.frame_core.specs.declared.frame.FrameKind.{FrameKind}
use Rattle.frame_core.specs.declared.frame.FrameKind.TheVariants.{Pad, Message, Heartbeat}
use Rattle.frame_core.specs.declared.frame.Frame.{Frame}
use Rattle.frame_core.specs.declared.block.Publication.{Publication}
use Rattle.frame_core.specs.declared.geometry.Geometry.{Geometry}
use Rattle.frame_core.specs.declared.setup.Setup.{Setup}
use Rattle.frame_core.specs.FrameEncoding.{aligned_length}
use Rattle.frame_core.specs.Setup.{HasJoinPosition, geometry_of}
use Rattle.frame_core.specs.Position.{frame_position}
use Rattle.image_core.specs.declared.fate.Fate.{Fate}
use Rattle.image_core.specs.declared.fate.Fate.TheVariants.{Joins, Tells, Drops}
use Rattle.image_core.specs.Rebuild.{end_of, chain_end, next_start, term_end}

-- whose frames an image receives, the frames that joined from a position on, each at its position and by rising position, and the high-water mark
pub record Received : Type 0 where
  pub geometry : Geometry
  pub publication : Publication
  pub from : ℕ
  pub joined : List (ℕ × Frame)
  pub high : ℕ

-- nothing was received of a publication that is joined at a position
abbrev pub begun : Geometry → Publication → ℕ → Received
begun g publication p = record { geometry = g; publication = publication; from = p; joined = []; high = p }

-- nothing was received of the publication that a setup frame tells of, which is joined where it says
pub record IsBegun (s : Setup) (r : Received) : Type 0 where
  pub position : ℕ
  pub joins : HasJoinPosition s (pos position)
  pub begins : r ≡ begun (geometry_of s) (record { session_id = s.session_id; stream_id = s.stream_id }) position

-- the rebuild position: the end of the longest chain of received frames
abbrev pub rebuilt : Received → ℕ
rebuilt r = chain_end r.from r.joined

-- half a term
abbrev pub window : Geometry → ℕ
window g = unsigned_abs g.term_length / 2

-- of the image's session and stream
unfoldable pub is_of : Publication → Frame → Bool
is_of publication f = int_eq f.session_id publication.session_id && int_eq f.stream_id publication.stream_id

-- a message or a pad, with at most MTU bytes in its datagram. A pad has 32
abbrev pub is_within : ℤ → FrameKind → ℤ → Bool
is_within mtu Pad len = int_le (pos 32) mtu
is_within mtu Message len = int_le len mtu
is_within mtu Heartbeat len = false

-- inside its term
unfoldable pub is_inside : Geometry → Frame → Bool
is_inside g f = nat_le (unsigned_abs f.term_offset + aligned_length f) (unsigned_abs g.term_length)

-- the position at which a message or pad may join, if nothing that was received speaks against it
unfoldable pub joining_position : Geometry → Publication → Frame → Option ℕ
joining_position g publication f =
    if is_of publication f && is_within g.mtu f.kind f.length && is_inside g f then frame_position g f else None

-- a range overlaps no frame that joined
abbrev pub is_free : ℕ → ℕ → List (ℕ × Frame) → Bool
is_free p end [] = true
is_free p end (m ∷ ms) = (nat_le (end_of m) p || nat_le end m.0) && is_free p end ms

-- a range is open to a frame: at or after the rebuild position, ending at most half a term past it, and over no frame that joined
abbrev pub is_open : Received → ℕ → ℕ → Bool
is_open r p end = nat_le (rebuilt r) p && nat_le end (rebuilt r + window r.geometry) && is_free p end r.joined

-- what becomes of a message or pad, by where it may join
abbrev pub frame_fate : Received → Frame → Option ℕ → Fate
frame_fate r f None = Drops
frame_fate r f (Some p) = if is_open r p (p + aligned_length f) then Joins p else Drops

-- what becomes of a heartbeat, by its position
abbrev pub heartbeat_fate : Option ℕ → Fate
heartbeat_fate None = Drops
heartbeat_fate (Some p) = Tells p

-- a heartbeat of the image's session and stream that has a position counts for the high-water mark alone
abbrev pub fate_of : FrameKind → Received → Frame → Fate
fate_of Pad r f = frame_fate r f (joining_position r.geometry r.publication f)
fate_of Message r f = frame_fate r f (joining_position r.geometry r.publication f)
fate_of Heartbeat r f = heartbeat_fate (if is_of r.publication f then frame_position r.geometry f else None)

abbrev pub fate : Received → Frame → Fate
fate r f = fate_of f.kind r f

-- after a frame that came so
abbrev pub after_frame : Received → Frame → Fate → Received
after_frame r f (Joins p) = record r { joined = insert_entry nat_cmp r.joined p f; high = max r.high (p + aligned_length f) }
after_frame r f (Tells p) = record r { high = max r.high p }
after_frame r f Drops = r

abbrev pub received : Received → Frame → Received
received r f = after_frame r f (fate r f)

-- after some frames, in order
abbrev pub received_all : Received → List Frame → Received
received_all r [] = r
received_all r (f ∷ fs) = received_all (received r f) fs

-- where the gap ends that begins at the rebuild position: at the nearest received frame, the high-water mark or the end of the term, whichever is first
abbrev pub gap_end : Received → ℕ
gap_end r = min (next_start (rebuilt r) r.high r.joined) (min r.high (term_end r.geometry (rebuilt r)))

-- frames that follow one another from a position to another
abbrev pub IsChain : ℕ → List (ℕ × Frame) → ℕ → Type 0
IsChain p [] q = p ≡ q
IsChain p (m ∷ ms) q = (p ≡ m.0) × (0 < aligned_length m.1) × IsChain (end_of m) ms q

-- the first is all that was received, and the second what is left of it where a chain of frames was taken
pub record StandsFor (all r : Received) : Type 0 where
  pub taken : List (ℕ × Frame)
  pub geometry : all.geometry ≡ r.geometry
  pub publication : all.publication ≡ r.publication
  pub chain : IsChain all.from taken r.from
  pub joined : all.joined ≡ taken ++ r.joined
  pub high : all.high ≡ r.high

-- what was taken makes no difference: the rebuild position, the gap, what becomes of each further frame, and what is received with it
pub record IsUnseen (all r : Received) : Type 0 where
  pub rebuilt : rebuilt all ≡ rebuilt r
  pub gap : gap_end all ≡ gap_end r
  pub fates : (f : Frame) → fate all f ≡ fate r f
  pub further : (fs : List Frame) → StandsFor (received_all all fs) (received_all r fs)
