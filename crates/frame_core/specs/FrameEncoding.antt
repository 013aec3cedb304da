-- Frames as bytes: Aeron Transport Protocol Specification, "Data Frame" and "Padding Frame".
use Rattle.std.specs.Prelude.{◌≡◌, ◌<◌, ◌≤◌, ◌≤ℤ◌, ◌*◌, ◌+◌, ◌-◌, ◌/◌, ℕ, ℤ, pos, List, [], ◌∷◌, ◌++◌, length, drop, replicate, slice_index, unsigned_abs, FitsSigned}
use Rattle.std.specs.Int.{w32, w64, cast_signed, cast_unsigned}
use Rattle.byteorder.specs.Endian.{little_bytes, little_number}
use Rattle.frame_core.specs.declared.frame.FrameKind.{FrameKind}
use Rattle.frame_core.specs.declared.frame.FrameKind.TheVariants.{Pad, Message, Heartbeat}
use Rattle.frame_core.specs.declared.frame.Frame.{Frame}
use Rattle.frame_core.specs.declared.frame.FrameRef.{FrameRef}

-- the same frame, apart from where its payload lies
abbrev pub frame_of : FrameRef → Frame
frame_of r = record {
  kind = r.kind;
  flags = r.flags;
  length = r.length;
  term_offset = r.term_offset;
  session_id = r.session_id;
  stream_id = r.stream_id;
  term_id = r.term_id;
  reserved = r.reserved;
  payload = r.payload.now;
}

-- the number in the header's type field
abbrev pub type_of : FrameKind → ℕ
type_of Pad = 0
type_of Message = 1
type_of Heartbeat = 1

-- a signed number as four or eight bytes, the lowest first
abbrev pub i32_bytes : ℤ → List ℕ
i32_bytes z = little_bytes 4 (cast_unsigned w32 z)

abbrev pub i64_bytes : ℤ → List ℕ
i64_bytes z = little_bytes 8 (cast_unsigned w64 z)

-- the header, 32 bytes. Behind the length stand the version 0 and the flags
unfoldable pub header_of : Frame → List ℕ
header_of f =
    i32_bytes f.length ++ (0 ∷ f.flags ∷ []) ++ little_bytes 2 (type_of f.kind) ++ i32_bytes f.term_offset ++ i32_bytes f.session_id
    ++ i32_bytes f.stream_id
    ++ i32_bytes f.term_id
    ++ i64_bytes f.reserved

-- each field is a value of its type
pub record Fits (f : Frame) : Type 0 where
  pub flags : f.flags < 256
  pub length : FitsSigned w32 f.length
  pub term_offset : FitsSigned w32 f.term_offset
  pub session_id : FitsSigned w32 f.session_id
  pub stream_id : FitsSigned w32 f.stream_id
  pub term_id : FitsSigned w32 f.term_id
  pub reserved : FitsSigned w64 f.reserved

-- which length a frame of a kind has. A pad's length may be more than its header; only that is sent
abbrev pub HasLength : FrameKind → ℤ → List ℕ → Type 0
HasLength Pad size payload = (pos 32 ≤ℤ size) × (payload ≡ [])
HasLength Message size payload = size ≡ pos (32 + length payload)
HasLength Heartbeat size payload = (size ≡ pos 0) × (payload ≡ [])

-- at least 0 and a multiple of 32
abbrev pub IsAligned : ℤ → Type 0
IsAligned z = (n : ℕ) × (z ≡ pos (32 * n))

-- a frame that has an encoding
pub record IsEncodable (f : Frame) : Type 0 where
  pub fits : Fits f
  pub length : HasLength f.kind f.length f.payload
  pub offset : IsAligned f.term_offset

-- the header, and the payload of a message; the others have none
abbrev pub encoded : Frame → List ℕ
encoded f = header_of f ++ f.payload

-- rounded up to a multiple of 32
abbrev pub aligned : ℕ → ℕ
aligned n = (n + 31) / 32 * 32

-- how many bytes of its stream a frame covers
abbrev pub aligned_length : Frame → ℕ
aligned_length f = aligned (unsigned_abs f.length)

-- what a segment file holds of a frame: zeros to a message's aligned length, a pad's header alone
abbrev pub stored_as : FrameKind → Frame → List ℕ
stored_as Pad f = header_of f
stored_as Message f = encoded f ++ replicate (aligned_length f - length (encoded f)) 0
stored_as Heartbeat f = []

abbrev pub stored : Frame → List ℕ
stored f = stored_as f.kind f

-- the number that stands at an offset in some bytes, the lowest byte first
unfoldable pub u16_at : List ℕ → ℕ → ℕ
u16_at bytes offset = little_number 2 (drop offset bytes)

unfoldable pub i32_at : List ℕ → ℕ → ℤ
i32_at bytes offset = cast_signed w32 (little_number 4 (drop offset bytes))

unfoldable pub i64_at : List ℕ → ℕ → ℤ
i64_at bytes offset = cast_signed w64 (little_number 8 (drop offset bytes))

-- the bytes begin with the frame's header, field by field
pub record IsHeader (bytes : List ℕ) (f : Frame) : Type 0 where
  pub whole : 32 ≤ length bytes
  pub length_at : i32_at bytes 0 ≡ f.length
  pub version_at : slice_index bytes 4 ≡ 0
  pub flags_at : slice_index bytes 5 ≡ f.flags
  pub type_at : u16_at bytes 6 ≡ type_of f.kind
  pub term_offset_at : i32_at bytes 8 ≡ f.term_offset
  pub session_id_at : i32_at bytes 12 ≡ f.session_id
  pub stream_id_at : i32_at bytes 16 ≡ f.stream_id
  pub term_id_at : i32_at bytes 20 ≡ f.term_id
  pub reserved_at : i64_at bytes 24 ≡ f.reserved
