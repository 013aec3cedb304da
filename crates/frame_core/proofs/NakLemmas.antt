-- NAK frames, and the bytes that they are read from.
use Rattle.std.proofs.Common.{◌≡◌, ◌∙◌, sym, ap, refl, ℕ, List, ◌++◌, drop, take, ◌∷◌, [], arith}
use Rattle.std.specs.Prelude.{slice_index}
use Rattle.byteorder.specs.Endian.{little_bytes}
use Rattle.frame_core.specs.declared.nak.Nak.{Nak}
use Rattle.frame_core.specs.Decoding.{read_nak}
use Rattle.frame_core.specs.FrameEncoding.{u16_at, i32_at, i32_bytes}
use Rattle.frame_core.specs.Nak.{HasRange, IsNak, NakFits, encoded_nak}
use Rattle.frame_core.proofs.FrameEncodingLemmas.{AreBytes, i32_back, i32_bytes-i32_at, u16_bytes-u16_at, part, two_bytes}

-- an encoding has each field at its offset
pub IsNak-encoded_nak : (n : Nak) (rest : List ℕ) → NakFits n → HasRange n → IsNak (encoded_nak n ++ rest) n
unfolding encoded_nak u16_at i32_at
IsNak-encoded_nak n rest fits range = record {
  whole = omega arith;
  length_at = refl;
  version_at = refl;
  type_at = refl;
  session_id_at = i32_back n.session_id (drop 12 (encoded_nak n ++ rest)) fits.session_id;
  stream_id_at = i32_back n.stream_id (drop 16 (encoded_nak n ++ rest)) fits.stream_id;
  term_id_at = i32_back n.term_id (drop 20 (encoded_nak n ++ rest)) fits.term_id;
  term_offset_at = i32_back n.term_offset (drop 24 (encoded_nak n ++ rest)) fits.term_offset;
  range_at = i32_back n.length rest fits.length;
  range = range;
}

-- the NAK frame in front of the bytes is the one that is read
pub nak_is_read : (bytes : List ℕ) (n : Nak) → IsNak bytes n → n ≡ read_nak bytes
nak_is_read bytes n is = rw (is.session_id_at, is.stream_id_at, is.term_id_at, is.term_offset_at, is.range_at) refl

-- the bytes have one NAK frame in front
pub one_nak : (bytes : List ℕ) (m n : Nak) → IsNak bytes m → IsNak bytes n → m ≡ n
one_nak bytes m n here there = nak_is_read bytes m here ∙ sym (nak_is_read bytes n there)

-- the version and the flags
version_flags : (bytes : List ℕ) (n : Nak) → IsNak bytes n → slice_index bytes 5 ≡ 0 → 0 ∷ 0 ∷ [] ≡ take 2 (drop 4 bytes)
version_flags bytes n is flags =
    let room = is.whole in
    let both : 0 ∷ 0 ∷ [] ≡ slice_index bytes 4 ∷ slice_index bytes 5 ∷ [] = rw (is.version_at, flags) refl in both ∙ two_bytes bytes 4 (omega arith)

-- where the flags are 0, the NAK frame that was read is the first 28 bytes
pub encoded_nak-IsNak : (bytes : List ℕ) (n : Nak) → AreBytes bytes → IsNak bytes n → slice_index bytes 5 ≡ 0 → take 28 bytes ≡ encoded_nak n
unfolding encoded_nak
encoded_nak-IsNak bytes n small is flags =
    let room = is.whole in
    sym (part bytes _ _ 24 4
    (part bytes _ _ 20 4
    (part bytes _ _ 16 4
    (part bytes _ _ 12 4
    (part bytes _ _ 8 4
    (part bytes _ _ 6 2
    (part bytes _ _ 4 2
    (ap i32_bytes (sym is.length_at) ∙ i32_bytes-i32_at bytes 0 small (omega arith))
    (version_flags bytes n is flags))
    (ap (little_bytes 2) (sym is.type_at) ∙ u16_bytes-u16_at bytes 6 small (omega arith)))
    (ap i32_bytes (sym is.session_id_at) ∙ i32_bytes-i32_at bytes 8 small (omega arith)))
    (ap i32_bytes (sym is.stream_id_at) ∙ i32_bytes-i32_at bytes 12 small (omega arith)))
    (ap i32_bytes (sym is.term_id_at) ∙ i32_bytes-i32_at bytes 16 small (omega arith)))
    (ap i32_bytes (sym is.term_offset_at) ∙ i32_bytes-i32_at bytes 20 small (omega arith)))
    (ap i32_bytes (sym is.range_at) ∙ i32_bytes-i32_at bytes 24 small (omega arith)))
