-- Setup frames, and the bytes that they are read from.
use Rattle.std.proofs.Common.{◌≡◌, ◌∙◌, sym, refl, ℕ, ℤ, List, ◌++◌, drop, Option, Some, None, arith}
use Rattle.std.specs.Prelude.{true, MatchOption}
use Rattle.frame_core.specs.declared.setup.Setup.{Setup}
use Rattle.frame_core.specs.Decoding.{read_setup}
use Rattle.frame_core.specs.FrameEncoding.{IsAligned, u16_at, i32_at}
use Rattle.frame_core.specs.Limits.{is_term_length, is_mtu}
use Rattle.frame_core.specs.Position.{HasPosition}
use Rattle.frame_core.proofs.FrameEncodingLemmas.{i32_back}
use Rattle.frame_core.proofs.PositionLemmas.{one_position}
use Rattle.frame_core.specs.Setup.{HasJoinPosition, IsSetup, IsUsable, SetupFits, encoded_setup, geometry_of}

-- an encoding has each field at its offset
pub IsSetup-encoded_setup : (s : Setup) (rest : List ℕ) → SetupFits s → IsUsable s → IsSetup (encoded_setup s ++ rest) s
unfolding encoded_setup u16_at i32_at
IsSetup-encoded_setup s rest fits usable = record {
  whole = omega arith;
  length_at = refl;
  version_at = refl;
  flags_at = refl;
  type_at = refl;
  term_offset_at = i32_back s.term_offset (drop 12 (encoded_setup s ++ rest)) fits.term_offset;
  session_id_at = i32_back s.session_id (drop 16 (encoded_setup s ++ rest)) fits.session_id;
  stream_id_at = i32_back s.stream_id (drop 20 (encoded_setup s ++ rest)) fits.stream_id;
  initial_term_id_at = i32_back s.initial_term_id (drop 24 (encoded_setup s ++ rest)) fits.initial_term_id;
  active_term_id_at = i32_back s.active_term_id (drop 28 (encoded_setup s ++ rest)) fits.active_term_id;
  term_length_at = i32_back s.term_length (drop 32 (encoded_setup s ++ rest)) fits.term_length;
  mtu_at = i32_back s.mtu (drop 36 (encoded_setup s ++ rest)) fits.mtu;
  ttl_at = i32_back s.ttl rest fits.ttl;
  usable = usable;
}

-- a setup frame of lengths in the limits is decided by its position
pub joins_where_it_may : (s : Setup) (found : Option ℤ) → is_term_length s.term_length ≡ true → is_mtu s.mtu ≡ true → IsAligned s.term_offset
    → MatchOption found ((p : ℤ) → HasPosition (geometry_of s) s.active_term_id s.term_offset p → ⊥) (HasPosition (geometry_of s) s.active_term_id s.term_offset)
    → MatchOption found (IsUsable s → ⊥) (HasJoinPosition s)
joins_where_it_may s None size unit offset joined = λ usable. joined usable.0 usable.1.joins
joins_where_it_may s (Some p) size unit offset joined = record { term_length = size; mtu = unit; offset = offset; joins = joined }

-- the setup frame in front of the bytes is the one that is read
pub setup_is_read : (bytes : List ℕ) (s : Setup) → IsSetup bytes s → s ≡ read_setup bytes
setup_is_read bytes s is = rw (
  is.flags_at,
  is.term_offset_at,
  is.session_id_at,
  is.stream_id_at,
  is.initial_term_id_at,
  is.active_term_id_at,
  is.term_length_at,
  is.mtu_at,
  is.ttl_at,
) refl

-- the bytes have one setup frame in front
pub one_setup : (bytes : List ℕ) (s t : Setup) → IsSetup bytes s → IsSetup bytes t → s ≡ t
one_setup bytes s t here there = setup_is_read bytes s here ∙ sym (setup_is_read bytes t there)

-- a setup frame has one join position
pub one_join : (s : Setup) (p q : ℤ) → HasJoinPosition s p → HasJoinPosition s q → p ≡ q
one_join s p q here there = one_position (geometry_of s) s.active_term_id s.term_offset p q here.joins there.joins
