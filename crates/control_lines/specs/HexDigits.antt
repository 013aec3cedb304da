-- How far hex digits are read, each byte put where it belongs.
use Rattle.std.specs.Prelude.{◌≡◌, ◌*◌, ◌<◌, ◌≤◌, ◌++◌, ℕ, List, take, drop, Result, Ok, Err}
use Rattle.std.specs.List.{AllPass}
use Rattle.hex.specs.Hex.{decode_pairs, is_hex_digit}
use Rattle.hex.specs.declared.error.FromHexError.{FromHexError}

-- bytes in front of those that are decoded
abbrev pub put_before : List ℕ → Result (List ℕ) FromHexError → Result (List ℕ) FromHexError
put_before front (Ok bytes) = Ok (front ++ bytes)
put_before front (Err fault) = Err fault

-- the first i bytes are those of the text, unless one of its bytes so far was no digit: then the worst value is 16 or more
pub record IsReadTo (text out : List ℕ) (i worst : ℕ) : Type 0 where
  pub digits : worst < 16 → decode_pairs 0 text ≡ put_before (take i out) (decode_pairs (2 * i) (drop (2 * i) text))
  pub other : 16 ≤ worst → AllPass is_hex_digit text → ⊥
