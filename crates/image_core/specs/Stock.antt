-- What an image is offered, so that what nobody takes is bounded: docs/PROTOCOL.md, "Stock".
use Rattle.std.specs.Prelude.{◌≡◌, ◌<◌, ◌≤◌, ◌+◌, ◌⊎◌, ◌+ℤ◌, ℕ, pos, min, nat_le, Bool, true, false, List, [], ◌∷◌, Option, Some, None}
use Rattle.std.specs.List.{list_all}
use Rattle.frame_core.specs.declared.frame.FrameKind.{FrameKind}
use Rattle.frame_core.specs.declared.frame.FrameKind.TheVariants.{Pad, Message, Heartbeat}
use Rattle.frame_core.specs.declared.frame.Frame.{Frame}
use Rattle.frame_core.specs.declared.geometry.Geometry.{Geometry}
use Rattle.frame_core.specs.declared.nak.Nak.{Nak}
use Rattle.frame_core.specs.FrameEncoding.{aligned_length}
use Rattle.frame_core.specs.Nak.{HasRange}
use Rattle.frame_core.specs.Position.{HasPosition, frame_position}
use Rattle.image_core.specs.declared.inserted.Inserted.{Inserted}
use Rattle.image_core.specs.Insert.{TakesIn}
use Rattle.image_core.specs.Received.{Received, gap_end, rebuilt, window}

-- where the stock of an image ends: 1,048,576 bytes of the stream past what was taken
abbrev pub stock_end : Received → ℕ
stock_end r = r.from + 1048576

-- how many bytes of the stock a frame takes, from where it begins: what an image that holds it keeps in memory. Of a message it keeps all, of a pad the header, however long the range is that the pad fills. A heartbeat is never held
abbrev pub kept_length_of : FrameKind → Frame → ℕ
kept_length_of Pad f = 32
kept_length_of Message f = aligned_length f
kept_length_of Heartbeat f = 0

abbrev pub kept_length : Frame → ℕ
kept_length f = kept_length_of f.kind f

-- so many bytes from a position on, if there is one, end at a limit at most
abbrev pub ends_within : ℕ → ℕ → Option ℕ → Bool
ends_within limit size None = true
ends_within limit size (Some p) = nat_le (p + size) limit

-- it is never held, or what is kept of it ends at a limit at most
abbrev pub is_near_of : FrameKind → Geometry → ℕ → Frame → Bool
is_near_of Pad g limit f = ends_within limit (kept_length_of Pad f) (frame_position g f)
is_near_of Message g limit f = ends_within limit (kept_length_of Message f) (frame_position g f)
is_near_of Heartbeat g limit f = true

abbrev pub is_near : Geometry → ℕ → Frame → Bool
is_near g limit f = is_near_of f.kind g limit f

-- each of the frames is never held, or what is kept of it ends within the stock
abbrev pub are_near : Received → List Frame → Bool
are_near r fs = list_all (is_near r.geometry (stock_end r)) fs

-- ---- offers

-- The frames of a datagram are taken in if each of them is near: it is never held, or what is kept of it ends within the stock. If not, they are lost.
abbrev pub Offers : Received → List Frame → Option Inserted → Received → Type 0
Offers old fs None new = (are_near old fs ≡ false) × (new ≡ old)
Offers old fs (Some i) new = (are_near old fs ≡ true) × TakesIn old fs i new

-- of no frame that is held, what is kept ends past the stock
abbrev pub is_stocked : ℕ → ℕ × Frame → Bool
is_stocked limit m = nat_le (m.0 + kept_length m.1) limit

abbrev pub HoldsItsStock : Received → Type 0
HoldsItsStock r = list_all (is_stocked (stock_end r)) r.joined ≡ true

-- how many bytes are kept of some frames
abbrev pub kept_bytes : List (ℕ × Frame) → ℕ
kept_bytes [] = 0
kept_bytes (m ∷ ms) = kept_length m.1 + kept_bytes ms

-- ---- requests

-- how far frames may be asked for: where the window and the stock end, whichever is first
abbrev pub reach : Received → ℕ
reach r = min (rebuilt r + window r.geometry) (stock_end r)

-- where a request ends
abbrev pub asked_end : Received → ℕ
asked_end r = min (gap_end r) (reach r)

-- nothing is missing, or there is no room for it
abbrev pub AsksNothing : Received → Type 0
AsksNothing r = (rebuilt r ≡ r.high) ⊎ (reach r ≤ rebuilt r)

-- a request for the part of the gap that there is room for
pub record Asks (r : Received) (n : Nak) : Type 0 where
  pub missing : rebuilt r < r.high
  pub room : rebuilt r < asked_end r
  pub session_id : n.session_id ≡ r.publication.session_id
  pub stream_id : n.stream_id ≡ r.publication.stream_id
  pub begins : HasPosition r.geometry n.term_id n.term_offset (pos (rebuilt r))
  pub ends : pos (rebuilt r) +ℤ n.length ≡ pos (asked_end r)
  pub range : HasRange n
