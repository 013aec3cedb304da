-- Bytes from hex digits, each pair put where its byte belongs.
use Rattle.std.proofs.Common.{◌≡◌, ℕ, ◌+◌, ◌*◌, ◌%◌, ◌<◌, ◌≤◌, max, List, length, take, slice_index, slice_set, inl, inr, nat_lt, Option, Some, None, unwrap_or, true, false, Result, Ok, Err, refl, sym, arith, ◌∙◌}
use Rattle.std.specs.List.{AllPass}
use Rattle.std.specs.Bool.{MatchBool}
use Rattle.std.proofs.lemmas.Bool.{cases_lt}
use Rattle.std.proofs.lemmas.Bool.Decides.{nat_tests}
use Rattle.std.proofs.lemmas.List.Elements.{All-get_or}
use Rattle.hex.specs.Hex.{decode_of, digit_or_error, hex_digit_value, is_hex_digit, pair_value}
use Rattle.hex.specs.declared.error.FromHexError.{FromHexError}
use Rattle.hex.proofs.HexLemmas.{decode_of-even, decode_of-ok}
use Rattle.hex.proofs.Pairs.{decode_done, decode_start, decode_step, prepend}
use Rattle.frame_core.specs.declared.refusal.Refusal.TheVariants.{BadLine}
use Rattle.control_lines.specs.HexDigits.{IsReadTo, put_before}
use Rattle.control_lines.specs.Numbers.{decoded}

-- a digit's value, and 255 for another byte
abbrev pub digit : ℕ → ℕ
digit c = unwrap_or (hex_digit_value c) 255

same_before : (front : List ℕ) (r : Result (List ℕ) FromHexError) → prepend front r ≡ put_before front r
same_before front (Ok bytes) = refl
same_before front (Err fault) = refl

pub nothing_read : (text out : List ℕ) → IsReadTo text out 0 0
nothing_read text out = record { digits = (λ _. decode_start text out ∙ same_before (take 0 out) _); other = (λ h. absurd (omega (arith, h))) }

read_value : (c i : ℕ) (o : Option ℕ) → unwrap_or o 255 < 16 → digit_or_error c i o ≡ Ok (unwrap_or o 255)
read_value c i (Some v) h = refl
read_value c i None h = absurd (omega (arith, h))

other_value : (c : ℕ) → 16 ≤ digit c → is_hex_digit c ≡ true → ⊥
other_value c h is = grind (arith)

read_pair : (a b i : ℕ) → digit a < 16 → digit b < 16 → pair_value a b i ≡ Ok (digit a * 16 + digit b)
read_pair a b i ha hb =
    let va = read_value a i (hex_digit_value a) ha in
    let vb = read_value b (i + 1) (hex_digit_value b) hb in
    rw (va, vb) refl

digit_at : (text : List ℕ) (k : ℕ) → k < length text → AllPass is_hex_digit text → is_hex_digit (slice_index text k) ≡ true
digit_at text k within all = All-get_or (λ c. is_hex_digit c ≡ true) text k 0 within all

-- what does not decode is no line
refused : (r : Result (List ℕ) FromHexError) → ((bytes : List ℕ) → r ≡ Ok bytes → ⊥) → decoded r ≡ Err BadLine
refused (Ok bytes) never = absurd (never bytes refl)
refused (Err fault) never = refl

-- one pair more is read
pub read_step : (text out : List ℕ) (i worst a b next : ℕ) → 2 * i + 1 < length text → i < length out
    → a ≡ digit (slice_index text (2 * i)) → b ≡ digit (slice_index text (2 * i + 1))
    → next ≡ max (max worst a) b → IsReadTo text out i worst
    → IsReadTo text (slice_set out i ((a * 16 % 256 + b) % 256)) (i + 1) next
read_step text out i worst a b next fits room ea eb e read = record {
  digits = (λ h.
      let small : (worst < 16) × (a < 16) × (b < 16) = omega (arith, e, h) in
      let byte : (a * 16 % 256 + b) % 256 ≡ a * 16 + b = omega (arith, small.1, small.2) in
      let pair = rw (← ea, ← eb) at (read_pair (slice_index text (2 * i)) (slice_index text (2 * i + 1)) (2 * i) (rw (← ea) small.1) (rw (← eb) small.2)) in
      rw byte (decode_step text out i (a * 16 + b) fits room pair (read.digits small.0 ∙ sym (same_before _ _)) ∙ same_before _ _));
  other = (λ h all. elim (cases_lt worst 16) [
    | inr far ↦ read.other far all
    | inl low ↦ elim (cases_lt a 16) [
      | inr far ↦ other_value (slice_index text (2 * i)) (rw (← ea) far) (digit_at text (2 * i) (omega (arith, fits)) all)
      | inl small ↦ other_value (slice_index text (2 * i + 1)) (rw (← eb) (omega (arith, e, h, low, small))) (digit_at text (2 * i + 1) fits all)
    ]
  ]);
}

-- every pair is read
pub all_read : (text out : List ℕ) (i worst : ℕ) → length out ≤ i → length text ≡ 2 * length out
    → IsReadTo text out i worst
    → MatchBool (nat_lt worst 16) (decode_of text ≡ Ok out) (decoded (decode_of text) ≡ Err BadLine)
all_read text out i worst end long read =
    let even : length text % 2 ≡ 0 = omega (arith, long) in
    elim (cases_lt worst 16) [
      | inl low ↦ let is : nat_lt worst 16 ≡ true = grind (arith, nat_tests, low) in rw is (decode_of-even text even ∙ decode_done text out i end (omega (arith, end, long)) (read.digits low ∙ sym (same_before _ _)))
      | inr far ↦ let is : nat_lt worst 16 ≡ false = grind (arith, nat_tests, far) in rw is (refused (decode_of text) (λ bytes is. read.other far (decode_of-ok text bytes is).1))
    ]
