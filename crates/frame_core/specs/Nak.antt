-- NAK frames, which ask for repair: Aeron Transport Protocol Specification, "NAK Frame"; docs/PROTOCOL.md, "NAK frame".
use Rattle.std.specs.Prelude.{◌≡◌, ◌≤◌, ◌≤ℤ◌, ℕ, pos, List, [], ◌∷◌, ◌++◌, length, slice_index, FitsSigned}
use Rattle.std.specs.Int.{w32}
use Rattle.byteorder.specs.Endian.{little_bytes}
use Rattle.frame_core.specs.declared.nak.Nak.{Nak}
use Rattle.frame_core.specs.FrameEncoding.{i32_bytes, u16_at, i32_at}

-- the frame, 28 bytes: the length 28, the version 0, the flags 0, the type 2, and the fields
unfoldable pub encoded_nak : Nak → List ℕ
encoded_nak n =
    i32_bytes (pos 28) ++ (0 ∷ 0 ∷ []) ++ little_bytes 2 2 ++ i32_bytes n.session_id ++ i32_bytes n.stream_id
    ++ i32_bytes n.term_id
    ++ i32_bytes n.term_offset
    ++ i32_bytes n.length

-- each field is a value of its type
pub record NakFits (n : Nak) : Type 0 where
  pub session_id : FitsSigned w32 n.session_id
  pub stream_id : FitsSigned w32 n.stream_id
  pub term_id : FitsSigned w32 n.term_id
  pub term_offset : FitsSigned w32 n.term_offset
  pub length : FitsSigned w32 n.length

-- it asks for at least one byte, from an offset that is at least 0
pub record HasRange (n : Nak) : Type 0 where
  pub begins : pos 0 ≤ℤ n.term_offset
  pub covers : pos 1 ≤ℤ n.length

-- the NAK frame stands in front of the bytes, field by field, whatever its flags are, and asks for a range
pub record IsNak (bytes : List ℕ) (n : Nak) : Type 0 where
  pub whole : 28 ≤ length bytes
  pub length_at : i32_at bytes 0 ≡ pos 28
  pub version_at : slice_index bytes 4 ≡ 0
  pub type_at : u16_at bytes 6 ≡ 2
  pub session_id_at : i32_at bytes 8 ≡ n.session_id
  pub stream_id_at : i32_at bytes 12 ≡ n.stream_id
  pub term_id_at : i32_at bytes 16 ≡ n.term_id
  pub term_offset_at : i32_at bytes 20 ≡ n.term_offset
  pub range_at : i32_at bytes 24 ≡ n.length
  pub range : HasRange n

-- no NAK frame stands in front
abbrev pub HasNoNak : List ℕ → Type 0
HasNoNak bytes = (n : Nak) → IsNak bytes n → ⊥
