-- What a window admits has room.
use Rattle.std.proofs.Common.{◌≡◌, refl, ◌+◌, ◌≤◌, ◌≤ℤ◌, ◌+ℤ◌, ℕ, ℤ, pos, List, [], ◌∷◌, true, Some, None, arith}
use Rattle.std.specs.Prelude.{Option}
use Rattle.std.proofs.lemmas.Bool.Decides.{nat_tests}
use Rattle.std.proofs.lemmas.Int.{ints, clamps}
use Rattle.frame_core.specs.declared.frame.Frame.{Frame}
use Rattle.frame_core.specs.declared.frame.FrameKind.{FrameKind}
use Rattle.frame_core.specs.declared.frame.FrameKind.TheVariants.{Heartbeat, Message, Pad}
use Rattle.frame_core.specs.declared.geometry.Geometry.{Geometry}
use Rattle.frame_core.specs.FrameEncoding.{HasLength, IsEncodable, aligned_length}
use Rattle.frame_core.specs.Position.{frame_position}
use Rattle.image_core.specs.Received.{Received, window}
use Rattle.image_core.specs.Stock.{are_near, ends_within, is_near, is_near_of, kept_length, kept_length_of, stock_end}
use Rattle.flow_control.specs.Progress.{AreInWindow, HasRoomAt, HasRoomWithin, MovesOn}
use Rattle.flow_control.specs.Windows.{receiver_window}
use Rattle.flow_control.proofs.ProgressLemmas.{chain_low}

-- a receiver window is at most the stock and half a term
record IsShort (g : Geometry) (bytes : ℤ) : Type 0 where
  stock : bytes ≤ℤ pos 1048576
  half : bytes ≤ℤ pos (window g)

short : (g : Geometry) (most bytes : ℤ) → bytes ≤ℤ receiver_window g most → IsShort g bytes
short g most bytes le = record { stock = omega (arith, ints, clamps); half = omega (arith, ints, clamps) }

-- it is at least 0 if its bound is
pub window_low : (g : Geometry) (most : ℤ) → pos 0 ≤ℤ most → pos 0 ≤ℤ receiver_window g most
window_low g most low = omega (arith, ints, clamps)

-- what is kept of a frame that a window admits ends within the stock
stock : (r : Received) (most bytes : ℤ) → bytes ≤ℤ receiver_window r.geometry most → (later : Received) (size p : ℕ) → MovesOn r later → pos (p + size) ≤ℤ (pos r.from +ℤ bytes)
    → p + size ≤ stock_end later
stock r most bytes le later size p on within = let is = short r.geometry most bytes le in omega (arith, ints, is.stock, on.consumed, within)

pub room : (r : Received) (most bytes : ℤ) → bytes ≤ℤ receiver_window r.geometry most → HasRoomWithin r bytes
room r most bytes le later f p on at within half =
    let low = chain_low r.from r.joined in
    record {
      stock = stock r most bytes le later (kept_length f) p on within;
      window = rw on.geometry (omega (arith, half, low, on.rebuilt));
    }

-- the same, of the window itself
pub room_of : (r : Received) (most bytes : ℤ) → bytes ≡ receiver_window r.geometry most → HasRoomWithin r bytes
room_of r most bytes is = room r most bytes (omega (arith, ints, is))

-- no more is kept of a frame than it covers
kept_short : (kind : FrameKind) (f : Frame) → f.kind ≡ kind → HasLength kind f.length f.payload → kept_length f ≤ aligned_length f
kept_short Pad f is size = rw is (omega (arith, ints, size.0))
kept_short Message f is size = rw is (omega arith)
kept_short Heartbeat f is size = rw is (omega arith)

-- a frame that ends within a window has room as a whole
pub whole : (r later : Received) (most bytes : ℤ) (f : Frame) (p : ℕ) → bytes ≤ℤ receiver_window r.geometry most → MovesOn r later → IsEncodable f → frame_position r.geometry f ≡ Some p
    → pos (p + aligned_length f) ≤ℤ (pos r.from +ℤ bytes) → HasRoomAt later p f
whole r later most bytes f p le on encodable at within =
    let is = short r.geometry most bytes le in
    let less = kept_short f.kind f refl encodable.length in
    room r most bytes le later f p on at (omega (arith, ints, less, within)) (omega (arith, ints, is.half, within))

ends : (limit size : ℕ) (found : Option ℕ) → ((p : ℕ) → found ≡ Some p → p + size ≤ limit) → ends_within limit size found ≡ true
ends limit size None le = refl
ends limit size (Some p) le = let here = le p refl in grind (arith, nat_tests)

near : (kind : FrameKind) (g : Geometry) (limit : ℕ) (f : Frame) → ((p : ℕ) → frame_position g f ≡ Some p → p + kept_length_of kind f ≤ limit) → is_near_of kind g limit f ≡ true
near Pad g limit f le = ends limit 32 (frame_position g f) le
near Message g limit f le = ends limit (aligned_length f) (frame_position g f) le
near Heartbeat g limit f le = refl

-- a datagram of frames that a window admits is not lost
pub kept : (r later : Received) (most bytes : ℤ) (fs : List Frame) → bytes ≤ℤ receiver_window r.geometry most → AreInWindow r bytes fs → MovesOn r later → are_near later fs ≡ true
kept r later most bytes [] le admitted on = refl
kept r later most bytes (f ∷ fs) le admitted on =
    let here : is_near later.geometry (stock_end later) f ≡ true =
    rw on.geometry (near f.kind r.geometry (stock_end later) f (λ p at. stock r most bytes le later (kept_length f) p on (admitted.0 p at))) in
    rw here (kept r later most bytes fs le admitted.1 on)
