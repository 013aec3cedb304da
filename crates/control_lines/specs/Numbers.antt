-- Numbers, bytes and texts as words of control lines: docs/CONTROL.md, "Words".
use Rattle.std.specs.Prelude.{◌^◌, ◌==◌, ◌&&◌, ℕ, ℤ, pos, negsuc, nat_lt, Bool, List, length, Result, Ok, Err, bytes_eq, if◌then◌else◌}
use Rattle.std.specs.Fmt.{signed_decimal}
use Rattle.std.specs.Str.Parse.{signed_digits_value}
use Rattle.hex.specs.Hex.{decode_of}
use Rattle.hex.specs.declared.error.FromHexError.{FromHexError}
use Rattle.frame_core.specs.declared.refusal.Refusal.{Refusal}
use Rattle.frame_core.specs.declared.refusal.Refusal.TheVariants.{BadLine}
use Rattle.frame_core.specs.Outcome.{◌>>=◌}

-- from -2^bits up to below 2^bits
abbrev pub fits : ℕ → ℤ → Bool
fits bits (pos n) = nat_lt n (2 ^ bits)
fits bits (negsuc n) = nat_lt n (2 ^ bits)

-- a word is a number if it is that number's decimal text
unfoldable pub long_of : List ℕ → Result ℤ Refusal
long_of word =
    let z = signed_digits_value 10 word in
    if bytes_eq (signed_decimal z) word && fits 63 z then Ok z else Err BadLine

-- the same, of 32 bits
unfoldable pub int_of : List ℕ → Result ℤ Refusal
int_of word = do
  z ← long_of word
  if fits 31 z then Ok z else Err BadLine

-- what the crate hex decodes, or no line
abbrev pub decoded : Result (List ℕ) FromHexError → Result (List ℕ) Refusal
decoded (Ok bytes) = Ok bytes
decoded (Err fault) = Err BadLine

-- pairs of hex digits in either case, at least one pair
unfoldable pub hex_bytes_of : List ℕ → Result (List ℕ) Refusal
hex_bytes_of text = if length text == 0 then Err BadLine else decoded (decode_of text)

-- a text of at least one byte
unfoldable pub plain_of : List ℕ → Result (List ℕ) Refusal
plain_of text = if length text == 0 then Err BadLine else Ok text
