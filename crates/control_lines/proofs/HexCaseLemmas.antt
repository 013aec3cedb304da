-- Hex digits in either case.
use Rattle.std.proofs.Common.{◌≡◌, ◌≢◌, subst, inl, inr, ℕ, zero, suc, ◌+◌, ◌*◌, ◌/◌, ◌%◌, ◌<◌, nat_lt, ◌==◌, Bool, true, ◌&&◌, List, [], ◌∷◌, length, map, slice_index, drop, Option, Some, None, Result, Ok, Err, refl, sym, ap, ◌∙◌, arith, eqb-true, ltb-true}
use Rattle.std.specs.Char.{to_ascii_lowercase}
use Rattle.std.specs.Result.{result_unwrap_or}
use Rattle.std.proofs.lemmas.Bool.{and_parts, cases_lt}
use Rattle.std.proofs.lemmas.List.{length-map}
use Rattle.hex.specs.Hex.{IsBytes, decode_of, decode_pairs, digit_or_error, hex_digit_value, is_hex_digit, encode_lower, encode_with, lower_digits, pair_value, value_at, ◌>>=◌}
use Rattle.hex.specs.declared.error.FromHexError.{FromHexError}
use Rattle.hex.proofs.HexLemmas.{IsDigits-lower_digits, decode_of-even, decode_of-ok, length-encode_with}
use Rattle.hex.proofs.Pairs.{cons_byte, decode_pairs-ok_pair}

-- ---- one digit

-- a digit's value, as a lower case digit, is the digit in lower case
abbrev is_lowered : Option ℕ → ℕ → Bool
is_lowered (Some v) d = nat_lt v 16 && (slice_index lower_digits v == d)
is_lowered None d = true

abbrev all_lowered : ℕ → Bool
all_lowered zero = true
all_lowered (suc n) = is_lowered (hex_digit_value n) (to_ascii_lowercase n) && all_lowered n

all_lowered-at : (n c : ℕ) → all_lowered n ≡ true → c < n → is_lowered (hex_digit_value c) (to_ascii_lowercase c) ≡ true
all_lowered-at zero c h lt = absurd (omega arith)
all_lowered-at (suc n) c h lt =
    let parts = and_parts (is_lowered (hex_digit_value n) (to_ascii_lowercase n)) (all_lowered n) h in
    elim (cases_lt c n) [
      | inl below ↦ all_lowered-at n c parts.1 below
      | inr top ↦
          let e : c ≡ n = omega arith in
          rw e parts.0
    ]

digit_below : (c v : ℕ) → hex_digit_value c ≡ Some v → c < 103
digit_below c v h = grind (arith)

record IsDigit (c v : ℕ) : Type 0 where
  small : v < 16
  lowered : slice_index lower_digits v ≡ to_ascii_lowercase c

digit_lowered : (c v : ℕ) → hex_digit_value c ≡ Some v → IsDigit c v
digit_lowered c v h =
    let tested : is_lowered (Some v) (to_ascii_lowercase c) ≡ true = rw h at (all_lowered-at 103 c refl (digit_below c v h)) in
    let parts = and_parts (nat_lt v 16) (slice_index lower_digits v == to_ascii_lowercase c) tested in
    record { small = ltb-true v 16 parts.0; lowered = eqb-true _ _ parts.1 }

-- the case of a digit does not matter
digit_either : (c : ℕ) → hex_digit_value (to_ascii_lowercase c) ≡ hex_digit_value c
digit_either c = grind (arith)

pub digit_no_blank : (c : ℕ) → is_hex_digit c ≡ true → c ≢ 32
digit_no_blank c h e = let no : is_hex_digit 32 ≡ true = subst (λ d. is_hex_digit d ≡ true) e h in absurd (cc no)

-- ---- pairs of digits

bind_ok : {A B : Type 0} (r : Result A FromHexError) (next : A → Result B FromHexError) (y : B) → (r >>= next) ≡ Ok y → (x : A) × (r ≡ Ok x) × (next x ≡ Ok y)
bind_ok (Ok x) next y h = (x, refl, h)
bind_ok (Err e) next y h = absurd (cc h)

digit_read : (c i : ℕ) (o : Option ℕ) (v : ℕ) → digit_or_error c i o ≡ Ok v → o ≡ Some v
digit_read c i (Some w) v h = ap Some (ap (λ (r : Result ℕ FromHexError). result_unwrap_or r 0) h)
digit_read c i None v h = absurd (cc h)

-- what decodes is, in lower case, the encoding of its bytes
pairs_lowered : (i : ℕ) (s bytes : List ℕ) → decode_pairs i s ≡ Ok bytes → map to_ascii_lowercase s ≡ encode_with lower_digits bytes
unfolding decode_pairs encode_with
pairs_lowered i [] bytes h =
    let e : [] ≡ bytes = ap (λ (r : Result (List ℕ) FromHexError). result_unwrap_or r []) h in
    rw (← e)
pairs_lowered i (a ∷ []) bytes h = absurd (cc h)
pairs_lowered i (a ∷ b ∷ rest) bytes h =
    let p0 = bind_ok (pair_value a b i) _ bytes h in
    let p1 = bind_ok (value_at a i) _ p0.0 p0.1 in
    let p2 = bind_ok (value_at b (i + 1)) _ p0.0 p1.2 in
    let p3 = bind_ok (decode_pairs (i + 2) rest) _ bytes p0.2 in
    let more = pairs_lowered (i + 2) rest p3.0 p3.1 in
    let e : p0.0 ∷ p3.0 ≡ bytes = ap (λ (r : Result (List ℕ) FromHexError). result_unwrap_or r []) p3.2 in
    let da = digit_lowered a p1.0 (digit_read a i (hex_digit_value a) p1.0 p1.1) in
    let db = digit_lowered b p2.0 (digit_read b (i + 1) (hex_digit_value b) p2.0 p2.1) in
    let byte : p1.0 * 16 + p2.0 ≡ p0.0 = ap (λ (r : Result ℕ FromHexError). result_unwrap_or r 0) p2.2 in
    let small = db.small in
    let high : p0.0 / 16 ≡ p1.0 = omega arith in
    let low : p0.0 % 16 ≡ p2.0 = omega arith in
    rw (← e, high, low, da.lowered, db.lowered, more)

-- what is read as bytes is, in lower case, their encoding
pub decode_of-lowered : (s bytes : List ℕ) → decode_of s ≡ Ok bytes → map to_ascii_lowercase s ≡ encode_lower bytes
decode_of-lowered s bytes h = pairs_lowered 0 s bytes (sym (decode_of-even s (decode_of-ok s bytes h).0) ∙ h)

digit_of : (c v : ℕ) → v < 16 → to_ascii_lowercase c ≡ slice_index lower_digits v → hex_digit_value c ≡ Some v
digit_of c v small e = sym (digit_either c) ∙ ap hex_digit_value e ∙ IsDigits-lower_digits v small

-- and digits that are an encoding in lower case are read as its bytes
pairs_read : (i : ℕ) (s bytes : List ℕ) → IsBytes bytes → map to_ascii_lowercase s ≡ encode_with lower_digits bytes → decode_pairs i s ≡ Ok bytes
unfolding decode_pairs encode_with
pairs_read i [] [] fit e = refl
pairs_read i [] (x ∷ bytes) fit e = absurd (cc e)
pairs_read i (a ∷ s) [] fit e = absurd (cc e)
pairs_read i (a ∷ []) (x ∷ bytes) fit e = absurd (cc e)
pairs_read i (a ∷ b ∷ s) (x ∷ bytes) fit e =
    let small : x < 256 = fit 0 in
    let first : to_ascii_lowercase a ≡ slice_index lower_digits (x / 16) = ap (λ l. slice_index l 0) e in
    let second : to_ascii_lowercase b ≡ slice_index lower_digits (x % 16) = ap (λ l. slice_index l 1) e in
    let others : map to_ascii_lowercase s ≡ encode_with lower_digits bytes = ap (drop 2) e in
    let da = digit_of a (x / 16) (omega arith) first in
    let db = digit_of b (x % 16) (omega arith) second in
    let pair : pair_value a b i ≡ Ok (x / 16 * 16 + x % 16) = rw (da, db) refl in
    let more = pairs_read (i + 2) s bytes (λ k. fit (suc k)) others in
    let whole : x / 16 * 16 + x % 16 ≡ x = omega arith in
    decode_pairs-ok_pair i a b _ s pair ∙ ap (cons_byte (x / 16 * 16 + x % 16)) more ∙ ap (λ (v : ℕ). Ok (v ∷ bytes)) whole

pub decode_of-either : (s bytes : List ℕ) → IsBytes bytes → map to_ascii_lowercase s ≡ encode_lower bytes → decode_of s ≡ Ok bytes
decode_of-either s bytes fit e =
    let long : length s ≡ 2 * length bytes = sym (length-map s to_ascii_lowercase) ∙ ap length e ∙ length-encode_with lower_digits bytes in
    decode_of-even s (omega (arith, long)) ∙ pairs_read 0 s bytes fit e
