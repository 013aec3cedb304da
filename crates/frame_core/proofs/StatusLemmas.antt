-- Status messages, and the bytes that they are read from.
use Rattle.std.proofs.Common.{◌≡◌, ◌∙◌, sym, ap, refl, ℕ, pos, List, ◌++◌, drop, take, ◌∷◌, [], arith}
use Rattle.std.proofs.lemmas.Int.{ints}
use Rattle.std.specs.Prelude.{slice_index}
use Rattle.byteorder.specs.Endian.{little_bytes}
use Rattle.frame_core.specs.declared.status.StatusMessage.{StatusMessage}
use Rattle.frame_core.specs.Decoding.{read_status}
use Rattle.frame_core.specs.FrameEncoding.{u16_at, i32_at, i64_at, i32_bytes, i64_bytes}
use Rattle.frame_core.specs.Status.{IsStatus, MayStand, StatusFits, encoded_status}
use Rattle.frame_core.proofs.FrameEncodingLemmas.{AreBytes, i32_back, i64_back, i32_bytes-i32_at, i64_bytes-i64_at, u16_bytes-u16_at, part, two_bytes}

-- an encoding has each field at its offset
pub IsStatus-encoded_status : (s : StatusMessage) (rest : List ℕ) → StatusFits s → MayStand s → IsStatus (encoded_status s ++ rest) s
unfolding encoded_status u16_at i32_at i64_at
IsStatus-encoded_status s rest fits fields = record {
  whole = omega arith;
  length_from = omega (arith, ints);
  length_to = omega (arith, ints);
  version_at = refl;
  flags_at = refl;
  type_at = refl;
  session_id_at = i32_back s.session_id (drop 12 (encoded_status s ++ rest)) fits.session_id;
  stream_id_at = i32_back s.stream_id (drop 16 (encoded_status s ++ rest)) fits.stream_id;
  term_id_at = i32_back s.consumption_term_id (drop 20 (encoded_status s ++ rest)) fits.term_id;
  term_offset_at = i32_back s.consumption_term_offset (drop 24 (encoded_status s ++ rest)) fits.term_offset;
  window_at = i32_back s.receiver_window (drop 28 (encoded_status s ++ rest)) fits.window;
  receiver_at = i64_back s.receiver_id rest fits.receiver;
  fields = fields;
}

-- the status message at the beginning of the bytes is the one that is read
pub status_is_read : (bytes : List ℕ) (s : StatusMessage) → IsStatus bytes s → s ≡ read_status bytes
status_is_read bytes s is = rw (is.flags_at, is.session_id_at, is.stream_id_at, is.term_id_at, is.term_offset_at, is.window_at, is.receiver_at) refl

-- the bytes have one status message at their beginning
pub one_status : (bytes : List ℕ) (s t : StatusMessage) → IsStatus bytes s → IsStatus bytes t → s ≡ t
one_status bytes s t here there = status_is_read bytes s here ∙ sym (status_is_read bytes t there)

-- the version and the flags
version_flags : (bytes : List ℕ) (s : StatusMessage) → IsStatus bytes s → 0 ∷ s.flags ∷ [] ≡ take 2 (drop 4 bytes)
version_flags bytes s is =
    let room = is.whole in
    let both : 0 ∷ s.flags ∷ [] ≡ slice_index bytes 4 ∷ slice_index bytes 5 ∷ [] = rw (is.version_at, is.flags_at) refl in
    both ∙ two_bytes bytes 4 (omega arith)

-- a status message of 36 bytes that was read is the first 36 bytes
pub encoded_status-IsStatus : (bytes : List ℕ) (s : StatusMessage) → AreBytes bytes → IsStatus bytes s → i32_at bytes 0 ≡ pos 36
    → take 36 bytes ≡ encoded_status s
unfolding encoded_status
encoded_status-IsStatus bytes s small is alone =
    let room = is.whole in
    sym (part bytes _ _ 28 8
    (part bytes _ _ 24 4
    (part bytes _ _ 20 4
    (part bytes _ _ 16 4
    (part bytes _ _ 12 4
    (part bytes _ _ 8 4
    (part bytes _ _ 6 2
    (part bytes _ _ 4 2
    (ap i32_bytes (sym alone) ∙ i32_bytes-i32_at bytes 0 small (omega arith))
    (version_flags bytes s is))
    (ap (little_bytes 2) (sym is.type_at) ∙ u16_bytes-u16_at bytes 6 small (omega arith)))
    (ap i32_bytes (sym is.session_id_at) ∙ i32_bytes-i32_at bytes 8 small (omega arith)))
    (ap i32_bytes (sym is.stream_id_at) ∙ i32_bytes-i32_at bytes 12 small (omega arith)))
    (ap i32_bytes (sym is.term_id_at) ∙ i32_bytes-i32_at bytes 16 small (omega arith)))
    (ap i32_bytes (sym is.term_offset_at) ∙ i32_bytes-i32_at bytes 20 small (omega arith)))
    (ap i32_bytes (sym is.window_at) ∙ i32_bytes-i32_at bytes 24 small (omega arith)))
    (ap i64_bytes (sym is.receiver_at) ∙ i64_bytes-i64_at bytes 28 small (omega arith)))
