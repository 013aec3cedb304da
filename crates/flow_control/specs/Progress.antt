-- What holds of an image as it moves on: docs/PROTOCOL.md, "Status messages and NAKs of a receiver".
use Rattle.std.specs.Prelude.{◌≡◌, ◌≤◌, ◌+◌, ◌≤ℤ◌, ◌+ℤ◌, ℕ, ℤ, pos, List, [], ◌∷◌, Option, None, Some}
use Rattle.frame_core.specs.declared.frame.Frame.{Frame}
use Rattle.frame_core.specs.FrameEncoding.{IsAligned, aligned_length}
use Rattle.frame_core.specs.Position.{frame_position}
use Rattle.image_core.specs.Received.{Received, rebuilt, window}
use Rattle.image_core.specs.Stock.{kept_length, stock_end}

-- an image of the same publication, whose consumed position and rebuild position have not fallen
pub record MovesOn (old new : Received) : Type 0 where
  pub geometry : new.geometry ≡ old.geometry
  pub publication : new.publication ≡ old.publication
  pub consumed : old.from ≤ new.from
  pub rebuilt : rebuilt old ≤ rebuilt new

-- an image has room for a frame at a position: what is kept of it ends within the stock, and the frame within the window
pub record HasRoomAt (r : Received) (p : ℕ) (f : Frame) : Type 0 where
  pub stock : p + kept_length f ≤ stock_end r
  pub window : p + aligned_length f ≤ rebuilt r + window r.geometry

-- a frame, if it has a position, is admitted: what is kept of it, a message or the header of a pad, ends at most so many bytes past what the image has consumed
abbrev pub IsInWindow : Received → ℤ → Frame → Type 0
IsInWindow r bytes f = (p : ℕ) → frame_position r.geometry f ≡ Some p → pos (p + kept_length f) ≤ℤ (pos r.from +ℤ bytes)

abbrev pub AreInWindow : Received → ℤ → List Frame → Type 0
AreInWindow r bytes [] = Unit {0}
AreInWindow r bytes (f ∷ fs) = IsInWindow r bytes f × AreInWindow r bytes fs

-- For each frame of which what is kept ends at most so many bytes past what the image has consumed, and the frame itself at most half a term past that, there is room, now and however the image moves on. A pad that ends further on has to wait until the image is rebuilt up to it.
abbrev pub HasRoomWithin : Received → ℤ → Type 0
HasRoomWithin r bytes =
    (later : Received) (f : Frame) (p : ℕ) → MovesOn r later → frame_position r.geometry f ≡ Some p
    → pos (p + kept_length f) ≤ℤ (pos r.from +ℤ bytes) → p + aligned_length f ≤ r.from + window r.geometry → HasRoomAt later p f

-- the consumed position and the term length are multiples of 32 bytes
pub record IsAlignedImage (r : Received) : Type 0 where
  pub consumed : IsAligned (pos r.from)
  pub terms : IsAligned r.geometry.term_length

-- ---- what is named

-- a bound of the positions that status messages name has not fallen to another
abbrev pub HasNotFallen : Option ℕ → Option ℕ → Type 0
HasNotFallen None None = Unit {0}
HasNotFallen None (Some later) = ⊥
HasNotFallen (Some bound) None = Unit {0}
HasNotFallen (Some bound) (Some later) = bound ≤ later
