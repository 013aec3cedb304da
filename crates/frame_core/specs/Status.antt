-- Status messages, which tell a sender how far it may go: Aeron Transport Protocol Specification, "Status Message Frame";
-- docs/PROTOCOL.md, "Status message".
use Rattle.std.specs.Prelude.{◌≡◌, ◌≤◌, ◌≤ℤ◌, ℕ, pos, List, [], ◌∷◌, ◌++◌, length, slice_index, FitsSigned}
use Rattle.std.specs.Int.{w32, w64}
use Rattle.byteorder.specs.Endian.{little_bytes}
use Rattle.frame_core.specs.declared.status.StatusMessage.{StatusMessage}
use Rattle.frame_core.specs.FrameEncoding.{IsAligned, i32_bytes, i64_bytes, u16_at, i32_at, i64_at}

-- the frame, 36 bytes: the length 36, the version 0, the flags, the type 3, and the fields
unfoldable pub encoded_status : StatusMessage → List ℕ
encoded_status s =
    i32_bytes (pos 36) ++ (0 ∷ s.flags ∷ []) ++ little_bytes 2 3 ++ i32_bytes s.session_id ++ i32_bytes s.stream_id
    ++ i32_bytes s.consumption_term_id
    ++ i32_bytes s.consumption_term_offset
    ++ i32_bytes s.receiver_window
    ++ i64_bytes s.receiver_id

-- each signed field is a value of its type
pub record StatusFits (s : StatusMessage) : Type 0 where
  pub session_id : FitsSigned w32 s.session_id
  pub stream_id : FitsSigned w32 s.stream_id
  pub term_id : FitsSigned w32 s.consumption_term_id
  pub term_offset : FitsSigned w32 s.consumption_term_offset
  pub window : FitsSigned w32 s.receiver_window
  pub receiver : FitsSigned w64 s.receiver_id

-- the offset is a multiple of 32 from 0, and the window is at least 0
pub record MayStand (s : StatusMessage) : Type 0 where
  pub offset : IsAligned s.consumption_term_offset
  pub window : pos 0 ≤ℤ s.receiver_window

-- The status message is at the beginning of the bytes, field by field. Its length, from 36 on, counts the feedback of an
-- application that may follow its 36 bytes, and all of it is there.
pub record IsStatus (bytes : List ℕ) (s : StatusMessage) : Type 0 where
  pub whole : 36 ≤ length bytes
  pub length_from : pos 36 ≤ℤ i32_at bytes 0
  pub length_to : i32_at bytes 0 ≤ℤ pos (length bytes)
  pub version_at : slice_index bytes 4 ≡ 0
  pub flags_at : slice_index bytes 5 ≡ s.flags
  pub type_at : u16_at bytes 6 ≡ 3
  pub session_id_at : i32_at bytes 8 ≡ s.session_id
  pub stream_id_at : i32_at bytes 12 ≡ s.stream_id
  pub term_id_at : i32_at bytes 16 ≡ s.consumption_term_id
  pub term_offset_at : i32_at bytes 20 ≡ s.consumption_term_offset
  pub window_at : i32_at bytes 24 ≡ s.receiver_window
  pub receiver_at : i64_at bytes 28 ≡ s.receiver_id
  pub fields : MayStand s

-- there is no status message at the beginning
abbrev pub HasNoStatus : List ℕ → Type 0
HasNoStatus bytes = (s : StatusMessage) → IsStatus bytes s → ⊥
