-- A header in front of some bytes, whatever stands behind it: docs/PROTOCOL.md, "Data and pad header".
use Rattle.std.specs.Prelude.{◌≡◌, ◌≤◌, ◌≤ℤ◌, ℕ, ℤ, pos, List, [], length, take}
use Rattle.frame_core.specs.declared.frame.FrameKind.{FrameKind}
use Rattle.frame_core.specs.declared.frame.FrameKind.TheVariants.{Pad, Message, Heartbeat}
use Rattle.frame_core.specs.declared.frame.Frame.{Frame}
use Rattle.frame_core.specs.FrameEncoding.{Fits, IsAligned, header_of, type_of}

-- which length the header of a kind has
abbrev pub HasHeaderLength : FrameKind → ℤ → Type 0
HasHeaderLength Pad size = pos 32 ≤ℤ size
HasHeaderLength Message size = pos 32 ≤ℤ size
HasHeaderLength Heartbeat size = size ≡ pos 0

-- the kind has this number in the type field, and this length
abbrev pub IsHeaderOfKind : ℕ → ℤ → FrameKind → Type 0
IsHeaderOfKind number size kind = (number ≡ type_of kind) × HasHeaderLength kind size

-- the bytes begin with the header of this frame, of which the payload is left out
pub record StartsWithHeader (bytes : List ℕ) (header : Frame) : Type 0 where
  pub whole : 32 ≤ length bytes
  pub stands : take 32 bytes ≡ header_of header
  pub fits : Fits header
  pub length : HasHeaderLength header.kind header.length
  pub offset : IsAligned header.term_offset
  pub no_payload : header.payload ≡ []

-- a frame with its payload left out
abbrev pub without_payload : Frame → Frame
without_payload f = record f { payload = [] }
