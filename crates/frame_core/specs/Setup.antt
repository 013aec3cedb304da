-- Setup frames: Aeron Transport Protocol Specification, "Setup Frame"; docs/PROTOCOL.md, "Setup frame".
use Rattle.std.specs.Prelude.{◌≡◌, ◌≤◌, ℕ, ℤ, pos, true, List, [], ◌∷◌, ◌++◌, length, slice_index, FitsSigned}
use Rattle.std.specs.Int.{w32}
use Rattle.byteorder.specs.Endian.{little_bytes}
use Rattle.frame_core.specs.declared.geometry.Geometry.{Geometry}
use Rattle.frame_core.specs.declared.setup.Setup.{Setup}
use Rattle.frame_core.specs.FrameEncoding.{IsAligned, i32_bytes, u16_at, i32_at}
use Rattle.frame_core.specs.Limits.{is_term_length, is_mtu}
use Rattle.frame_core.specs.Position.{HasPosition}

-- the terms of the publication
abbrev pub geometry_of : Setup → Geometry
geometry_of s = record { initial_term_id = s.initial_term_id; term_length = s.term_length; mtu = s.mtu }

-- a setup frame that may be used, and where its publication is joined: at its offset in the active term
pub record HasJoinPosition (s : Setup) (position : ℤ) : Type 0 where
  pub term_length : is_term_length s.term_length ≡ true
  pub mtu : is_mtu s.mtu ≡ true
  pub offset : IsAligned s.term_offset
  pub joins : HasPosition (geometry_of s) s.active_term_id s.term_offset position

-- a setup frame that may be used
abbrev pub IsUsable : Setup → Type 0
IsUsable s = (position : ℤ) × HasJoinPosition s position

-- the frame, 40 bytes: the length 40, the version 0, the flags, the type 5, and the fields
unfoldable pub encoded_setup : Setup → List ℕ
encoded_setup s =
    i32_bytes (pos 40) ++ (0 ∷ s.flags ∷ []) ++ little_bytes 2 5 ++ i32_bytes s.term_offset ++ i32_bytes s.session_id ++ i32_bytes s.stream_id
    ++ i32_bytes s.initial_term_id
    ++ i32_bytes s.active_term_id
    ++ i32_bytes s.term_length
    ++ i32_bytes s.mtu
    ++ i32_bytes s.ttl

-- each signed field is a value of its type
pub record SetupFits (s : Setup) : Type 0 where
  pub term_offset : FitsSigned w32 s.term_offset
  pub session_id : FitsSigned w32 s.session_id
  pub stream_id : FitsSigned w32 s.stream_id
  pub initial_term_id : FitsSigned w32 s.initial_term_id
  pub active_term_id : FitsSigned w32 s.active_term_id
  pub term_length : FitsSigned w32 s.term_length
  pub mtu : FitsSigned w32 s.mtu
  pub ttl : FitsSigned w32 s.ttl

-- the setup frame stands in front of the bytes, field by field, and may be used
pub record IsSetup (bytes : List ℕ) (s : Setup) : Type 0 where
  pub whole : 40 ≤ length bytes
  pub length_at : i32_at bytes 0 ≡ pos 40
  pub version_at : slice_index bytes 4 ≡ 0
  pub flags_at : slice_index bytes 5 ≡ s.flags
  pub type_at : u16_at bytes 6 ≡ 5
  pub term_offset_at : i32_at bytes 8 ≡ s.term_offset
  pub session_id_at : i32_at bytes 12 ≡ s.session_id
  pub stream_id_at : i32_at bytes 16 ≡ s.stream_id
  pub initial_term_id_at : i32_at bytes 20 ≡ s.initial_term_id
  pub active_term_id_at : i32_at bytes 24 ≡ s.active_term_id
  pub term_length_at : i32_at bytes 28 ≡ s.term_length
  pub mtu_at : i32_at bytes 32 ≡ s.mtu
  pub ttl_at : i32_at bytes 36 ≡ s.ttl
  pub usable : IsUsable s

-- no setup frame that may be used stands in front
abbrev pub HasNoSetup : List ℕ → Type 0
HasNoSetup bytes = (s : Setup) → IsSetup bytes s → ⊥
