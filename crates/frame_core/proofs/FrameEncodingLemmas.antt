-- Numbers and headers in bytes.
use Rattle.std.proofs.Common.{◌≡◌, ◌∙◌, sym, ap, refl, ℕ, zero, suc, ℤ, pos, negsuc, ◌≤ℤ◌, ◌+◌, ◌*◌, ◌/◌, ◌%◌, ◌^◌, ◌<◌, ◌≤◌, List, [], ◌∷◌, ◌++◌, length, take, drop, length-drop, drop-cons, subst, nat_eq, arith, FitsSigned}
use Rattle.std.proofs.Math.Nat.{pow-suc, div-div-eq-div-mul, div-one}
use Rattle.std.proofs.Math.Seq.{take-add}
use Rattle.std.proofs.lemmas.Int.{ints, to_z-of_z, of_z-to_z}
use Rattle.std.proofs.lemmas.List.{get_or-drop}
use Rattle.std.specs.Bool.{MatchBool}
use Rattle.std.specs.Prelude.{Bool, true, false, unsigned_abs, slice_index}
use Rattle.std.specs.Int.{w32, w64, cast_signed, cast_unsigned, byte_at, bytes_low_first}
use Rattle.byteorder.specs.Endian.{little_from, little_number, little_bytes}
use Rattle.byteorder.specs.Numbers.{little_number-reads_back, little_from-lt}
use Rattle.frame_core.specs.declared.frame.FrameKind.{FrameKind}
use Rattle.frame_core.specs.declared.frame.FrameKind.TheVariants.{Pad, Message, Heartbeat}
use Rattle.frame_core.specs.declared.frame.Frame.{Frame}
use Rattle.frame_core.specs.FrameEncoding.{IsAligned, IsHeader, Fits, header_of, type_of, i32_bytes, i64_bytes, u16_at, i32_at, i64_at}

-- each of them is a byte
abbrev pub AreBytes : List ℕ → Type 0
AreBytes bytes = (k : ℕ) → slice_index bytes k < 256

-- a number with no rest is a multiple
no_rest : (n : ℕ) → true ≡ nat_eq (n % 32) 0 → n ≡ 32 * (n / 32)
no_rest n is = grind arith

-- a multiple has no rest
has_rest : (n k : ℕ) → false ≡ nat_eq (n % 32) 0 → pos n ≡ pos (32 * k) → ⊥
has_rest n k is multiple =
    let whole : n ≡ 32 * k = omega (arith, ints) in
    let rest : n % 32 ≡ 0 = omega arith in grind arith

-- whether a number is a multiple of 32, by the rest of the division
pub aligned_decided : (z : ℤ) (b : Bool) → pos 0 ≤ℤ z → b ≡ nat_eq (unsigned_abs z % 32) 0 → MatchBool b (IsAligned z) (IsAligned z → ⊥)
aligned_decided (negsuc n) b low is = absurd (omega (arith, ints))
aligned_decided (pos n) true low is = (n / 32, ap pos (no_rest n is))
aligned_decided (pos n) false low is = λ aligned. has_rest n aligned.0 is aligned.1

-- a byte of a number, by its index
byte_is : (j x : ℕ) → byte_at j x ≡ x / 256 ^ j % 256
byte_is zero x = ap (λ (y : ℕ). y % 256) (sym (div-one x))
byte_is (suc j) x = refl

-- the bytes of a number that was read are the bytes
low_bytes_are : (n i j x : ℕ) (bytes : List ℕ) → AreBytes bytes → i + n ≤ length bytes → x / 256 ^ j ≡ little_from i n bytes → bytes_low_first j n x ≡ take n (drop i bytes)
low_bytes_are zero i j x bytes small room is = refl
low_bytes_are (suc n) i j x bytes small room is =
    let byte : slice_index bytes i < 256 = small i in
    let first : byte_at j x ≡ slice_index bytes i = byte_is j x ∙ ap (λ (y : ℕ). y % 256) is ∙ omega (arith, byte) in
    let shifted : x / 256 ^ suc j ≡ x / 256 ^ j / 256 = ap (λ (p : ℕ). x / p) (pow-suc 256 j) ∙ sym (div-div-eq-div-mul x (256 ^ j) 256) in
    let above : x / 256 ^ suc j ≡ little_from (suc i) n bytes = shifted ∙ ap (λ (y : ℕ). y / 256) is ∙ omega (arith, byte) in
    let rest = low_bytes_are n (suc i) (suc j) x bytes small (omega arith) above in
    rw (first, rest, drop-cons bytes i 0 (omega arith)) refl

-- behind an offset they are bytes too
pub AreBytes-drop : (bytes : List ℕ) (offset : ℕ) → AreBytes bytes → AreBytes (drop offset bytes)
AreBytes-drop bytes offset small k = subst (λ (b : ℕ). b < 256) (sym (get_or-drop offset bytes k 0)) (small (offset + k))

-- the bytes of the number at an offset are the bytes there
number_bytes_are : (n x offset : ℕ) (bytes : List ℕ) → AreBytes bytes → offset + n ≤ length bytes → x ≡ little_number n (drop offset bytes)
    → little_bytes n x ≡ take n (drop offset bytes)
number_bytes_are n x offset bytes small room is =
    low_bytes_are n 0 0 x (drop offset bytes) (AreBytes-drop bytes offset small) (omega (arith, length-drop offset bytes)) (div-one x ∙ is)

-- a number of n bytes is small
number_fits : (n offset : ℕ) (bytes : List ℕ) → AreBytes bytes → little_number n (drop offset bytes) < 256 ^ n
number_fits n offset bytes small = little_from-lt 0 n (drop offset bytes) (AreBytes-drop bytes offset small)

pub u16_bytes-u16_at : (bytes : List ℕ) (offset : ℕ) → AreBytes bytes → offset + 2 ≤ length bytes → little_bytes 2 (u16_at bytes offset) ≡ take 2 (drop offset bytes)
unfolding u16_at
u16_bytes-u16_at bytes offset small room = number_bytes_are 2 _ offset bytes small room refl

pub i32_bytes-i32_at : (bytes : List ℕ) (offset : ℕ) → AreBytes bytes → offset + 4 ≤ length bytes → i32_bytes (i32_at bytes offset) ≡ take 4 (drop offset bytes)
unfolding i32_at
i32_bytes-i32_at bytes offset small room = number_bytes_are 4 _ offset bytes small room (of_z-to_z w32 _ (number_fits 4 offset bytes small))

pub i64_bytes-i64_at : (bytes : List ℕ) (offset : ℕ) → AreBytes bytes → offset + 8 ≤ length bytes → i64_bytes (i64_at bytes offset) ≡ take 8 (drop offset bytes)
unfolding i64_at
i64_bytes-i64_at bytes offset small room = number_bytes_are 8 _ offset bytes small room (of_z-to_z w64 _ (number_fits 8 offset bytes small))

-- what was read fits
signed_fits32 : (n : ℕ) → n < 256 ^ 4 → FitsSigned w32 (cast_signed w32 n)
signed_fits32 n small = omega (arith, ints)

signed_fits64 : (n : ℕ) → n < 256 ^ 8 → FitsSigned w64 (cast_signed w64 n)
signed_fits64 n small = omega (arith, ints)

pub FitsSigned-i32_at : (bytes : List ℕ) (offset : ℕ) → AreBytes bytes → FitsSigned w32 (i32_at bytes offset)
unfolding i32_at
FitsSigned-i32_at bytes offset small = signed_fits32 _ (number_fits 4 offset bytes small)

pub FitsSigned-i64_at : (bytes : List ℕ) (offset : ℕ) → AreBytes bytes → FitsSigned w64 (i64_at bytes offset)
unfolding i64_at
FitsSigned-i64_at bytes offset small = signed_fits64 _ (number_fits 8 offset bytes small)

-- a signed number is read back
pub i32_back : (z : ℤ) (rest : List ℕ) → FitsSigned w32 z → cast_signed w32 (little_number 4 (i32_bytes z ++ rest)) ≡ z
i32_back z rest fits = ap (cast_signed w32) (little_number-reads_back 4 (cast_unsigned w32 z) rest (omega (arith, ints))) ∙ to_z-of_z w32 z fits

pub i64_back : (z : ℤ) (rest : List ℕ) → FitsSigned w64 z → cast_signed w64 (little_number 8 (i64_bytes z ++ rest)) ≡ z
i64_back z rest fits = ap (cast_signed w64) (little_number-reads_back 8 (cast_unsigned w64 z) rest (omega (arith, ints))) ∙ to_z-of_z w64 z fits

-- the number of a type is small
type_fits : (kind : FrameKind) → type_of kind < 256 ^ 2
type_fits Pad = omega arith
type_fits Message = omega arith
type_fits Heartbeat = omega arith

-- the header's fields stand at their offsets
pub IsHeader-header_of : (f : Frame) (rest : List ℕ) → Fits f → IsHeader (header_of f ++ rest) f
unfolding header_of u16_at i32_at i64_at
IsHeader-header_of f rest fits = record {
  whole = omega arith;
  length_at = i32_back f.length (drop 4 (header_of f ++ rest)) fits.length;
  version_at = refl;
  flags_at = refl;
  type_at = little_number-reads_back 2 (type_of f.kind) (drop 8 (header_of f ++ rest)) (type_fits f.kind);
  term_offset_at = i32_back f.term_offset (drop 12 (header_of f ++ rest)) fits.term_offset;
  session_id_at = i32_back f.session_id (drop 16 (header_of f ++ rest)) fits.session_id;
  stream_id_at = i32_back f.stream_id (drop 20 (header_of f ++ rest)) fits.stream_id;
  term_id_at = i32_back f.term_id (drop 24 (header_of f ++ rest)) fits.term_id;
  reserved_at = i64_back f.reserved rest fits.reserved;
}

-- a part behind the first bytes
pub part : (bytes front xs : List ℕ) (offset n : ℕ) → front ≡ take offset bytes → xs ≡ take n (drop offset bytes) → front ++ xs ≡ take (offset + n) bytes
part bytes front xs offset n front_is is = rw (front_is, is) (sym (take-add offset n bytes))

-- two bytes, one by one
pub two_bytes : (bytes : List ℕ) (offset : ℕ) → offset + 2 ≤ length bytes → slice_index bytes offset ∷ slice_index bytes (suc offset) ∷ [] ≡ take 2 (drop offset bytes)
two_bytes bytes offset room = rw (drop-cons bytes offset 0 (omega arith), drop-cons bytes (suc offset) 0 (omega arith)) refl

-- the version and the flags
version_flags : (bytes : List ℕ) (f : Frame) → IsHeader bytes f → 0 ∷ f.flags ∷ [] ≡ take 2 (drop 4 bytes)
version_flags bytes f header =
    let room = header.whole in
    let both : 0 ∷ f.flags ∷ [] ≡ slice_index bytes 4 ∷ slice_index bytes 5 ∷ [] = rw (header.version_at, header.flags_at) refl in
    both ∙ two_bytes bytes 4 (omega arith)

-- the header that was read is the first 32 bytes
pub header_of-IsHeader : (bytes : List ℕ) (f : Frame) → AreBytes bytes → IsHeader bytes f → header_of f ≡ take 32 bytes
unfolding header_of
header_of-IsHeader bytes f small header =
    let room = header.whole in
    part bytes _ _ 24 8
    (part bytes _ _ 20 4
    (part bytes _ _ 16 4
    (part bytes _ _ 12 4
    (part bytes _ _ 8 4
    (part bytes _ _ 6 2
    (part bytes _ _ 4 2
    (ap i32_bytes (sym header.length_at) ∙ i32_bytes-i32_at bytes 0 small (omega arith))
    (version_flags bytes f header))
    (ap (little_bytes 2) (sym header.type_at) ∙ u16_bytes-u16_at bytes 6 small (omega arith)))
    (ap i32_bytes (sym header.term_offset_at) ∙ i32_bytes-i32_at bytes 8 small (omega arith)))
    (ap i32_bytes (sym header.session_id_at) ∙ i32_bytes-i32_at bytes 12 small (omega arith)))
    (ap i32_bytes (sym header.stream_id_at) ∙ i32_bytes-i32_at bytes 16 small (omega arith)))
    (ap i32_bytes (sym header.term_id_at) ∙ i32_bytes-i32_at bytes 20 small (omega arith)))
    (ap i64_bytes (sym header.reserved_at) ∙ i64_bytes-i64_at bytes 24 small (omega arith))

-- a header has 32 bytes
pub length-header_of : (f : Frame) → length (header_of f) ≡ 32
unfolding header_of
length-header_of f = refl
