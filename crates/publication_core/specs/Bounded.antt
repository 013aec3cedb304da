-- A sender and a bounded image on a bad line: docs/PROTOCOL.md, "Publications of recordings" and "Stock".
use Rattle.std.specs.Prelude.{◌≡◌, ◌≤◌, ◌++◌, ◌⊎◌, ℕ, true, List, [], ◌∷◌, Option, Some}
use Rattle.std.specs.List.{AllByRecursion}
use Rattle.frame_core.specs.declared.block.Block.{Block}
use Rattle.frame_core.specs.declared.frame.Frame.{Frame}
use Rattle.frame_core.specs.declared.frame.FrameKind.TheVariants.{Heartbeat}
use Rattle.frame_core.specs.declared.geometry.Geometry.{Geometry}
use Rattle.frame_core.specs.Datagram.{IsDatagram}
use Rattle.frame_core.specs.Position.{position_of}
use Rattle.image_core.specs.declared.inserted.Inserted.{Inserted}
use Rattle.image_core.specs.Received.{Received, rebuilt}
use Rattle.image_core.specs.Stock.{Offers, are_near}
use Rattle.image_core.specs.Take.{GivesBlock}
use Rattle.publication_core.specs.declared.datagram.Datagram.{Datagram}
use Rattle.publication_core.specs.Copies.{IsInReach}
use Rattle.publication_core.specs.Meeting.{HasGone, goes_out}
use Rattle.publication_core.specs.Runs.{Call, LaysOfStream, sending_after, Hear}
use Rattle.publication_core.specs.Sending.{Sending}

-- a call of the sender; frames that are offered to the image, with its answer and what it is then; or a block that it gives, with what it is then
pub data BoundedTurn : Type 0 where
  CallsSender : Call → BoundedTurn
  OffersFrames : List Frame → Option Inserted → Received → BoundedTurn
  GivesOn : Block → Received → BoundedTurn

-- the frames of a datagram that went out
pub record AreOfDatagram (out : List Datagram) (fs : List Frame) : Type 0 where
  pub datagram : Datagram
  pub gone : HasGone out datagram
  pub reads : IsDatagram datagram.bytes fs

-- a heartbeat alone, or the frames of a datagram that went out
abbrev pub MayBeOffered : List Datagram → List Frame → Type 0
MayBeOffered out fs = ((f : Frame) × (f.kind ≡ Heartbeat) × (fs ≡ f ∷ [])) ⊎ AreOfDatagram out fs

-- a status message names no position past another one
abbrev pub NamesAtMost : Geometry → ℕ → Call → Type 0
NamesAtMost g most (Hear now status) = (p : ℕ) → position_of g status.consumption_term_id status.consumption_term_offset ≡ Some p → p ≤ most
NamesAtMost g most call = Unit {0}

-- Turns, one after another. The frames that are laid are those of a stream, status messages name no position past what was taken of the image, and what is offered has gone out.
abbrev pub MeetBounded : List (ℕ × Frame) → List BoundedTurn → List Datagram → Sending → Received → Type 0
MeetBounded stream [] out s r = Unit {0}
MeetBounded stream (CallsSender c ∷ ts) out s r = LaysOfStream stream c × NamesAtMost s.geometry r.from c × MeetBounded stream ts (out ++ goes_out c s) (sending_after c s) r
MeetBounded stream (OffersFrames fs found new ∷ ts) out s r = MayBeOffered out fs × Offers r fs found new × MeetBounded stream ts out s new
MeetBounded stream (GivesOn b new ∷ ts) out s r = GivesBlock r b new × MeetBounded stream ts out s new

-- the calls of the sender
abbrev pub sender_calls : List BoundedTurn → List Call
sender_calls [] = []
sender_calls (CallsSender c ∷ ts) = c ∷ sender_calls ts
sender_calls (OffersFrames fs found new ∷ ts) = sender_calls ts
sender_calls (GivesOn b new ∷ ts) = sender_calls ts

-- the frames that were offered
abbrev pub offered_by : List BoundedTurn → List Frame
offered_by [] = []
offered_by (CallsSender c ∷ ts) = offered_by ts
offered_by (OffersFrames fs found new ∷ ts) = fs ++ offered_by ts
offered_by (GivesOn b new ∷ ts) = offered_by ts

-- what the image is after all turns
abbrev pub image_after : List BoundedTurn → Received → Received
image_after [] r = r
image_after (CallsSender c ∷ ts) r = image_after ts r
image_after (OffersFrames fs found new ∷ ts) r = image_after ts new
image_after (GivesOn b new ∷ ts) r = image_after ts new

-- Whenever frames are offered, the image has room for each: what is kept of it ends within the stock, and a frame of the stream within the window.
abbrev pub HasRoomForAll : List (ℕ × Frame) → List BoundedTurn → Received → Type 0
HasRoomForAll stream [] r = Unit {0}
HasRoomForAll stream (CallsSender c ∷ ts) r = HasRoomForAll stream ts r
HasRoomForAll stream (OffersFrames fs found new ∷ ts) r = (are_near r fs ≡ true) × AllByRecursion (IsInReach r.geometry stream (rebuilt r)) fs × HasRoomForAll stream ts new
HasRoomForAll stream (GivesOn b new ∷ ts) r = HasRoomForAll stream ts new
