-- Words of a line, and what they stand for.
use Rattle.std.proofs.Common.{◌≡◌, ◌≢◌, ℕ, ◌+◌, ◌^◌, ◌<◌, ◌≤◌, zero, suc, ℤ, pos, negsuc, neg_ℤ, Bool, true, false, not, if◌then◌else◌, ◌&&◌, ◌==◌, eq-eqb, eqb-true, ltb-true, List, take, [], ◌∷◌, ◌++◌, length, map, get_or, Option, Some, None, Result, Ok, Err, refl, sym, ◌∙◌, ap, subst, arith, rules, tests, length-append, ne_eqb}
use Rattle.std.specs.List.{All, position_or_len, before_first, after_first}
use Rattle.std.specs.Str.{bytes_eq}
use Rattle.std.specs.Str.Parse.{AllDigits, digits_value, signed_digits_value}
use Rattle.std.specs.Fmt.{decimal, signed_decimal}
use Rattle.std.specs.Int.{IsInRange}
use Rattle.std.specs.Char.{to_ascii_lowercase}
use Rattle.std.proofs.lemmas.Fmt.{decimal_is_IsNumeral}
use Rattle.std.proofs.lemmas.Str.Parse.{digit_at}
use Rattle.std.proofs.lemmas.Bool.{and_parts, ltb-false, not-false}
use Rattle.std.proofs.lemmas.List.Sums.{fails_before_first, split_at_first, prefix_len_stops}
use Rattle.std.proofs.Math.Seq.{take-append_seam, drop-append-add}
use Rattle.std.proofs.lemmas.List.{append-nil, get_or-take, length-take-le}
use Rattle.std.proofs.lemmas.List.Elements.{All-head, All-tail, All-cons, All-get_or, All-from_get_or}
use Rattle.std.proofs.lemmas.Slice.Eq.{bytes_eq-Decides}
use Rattle.hex.specs.Hex.{IsBytes, decode_of, encode_lower, is_hex_digit}
use Rattle.hex.specs.declared.error.FromHexError.{FromHexError}
use Rattle.hex.proofs.HexLemmas.{decode_of-encode_lower, decode_of-ok}
use Rattle.frame_core.specs.declared.refusal.Refusal.{Refusal}
use Rattle.frame_core.specs.declared.refusal.Refusal.TheVariants.{BadLine}
use Rattle.frame_core.specs.Outcome.{◌>>=◌}
use Rattle.control_lines.specs.Numbers.{fits, long_of, int_of, decoded, hex_bytes_of, plain_of}
use Rattle.control_lines.specs.Table.{Kind, int, long, hex, plain, Value}
use Rattle.control_lines.specs.Lines.{has_blank, word_at, value_of, value_at}
use Rattle.control_lines.specs.LineText.{IsFit, word_of, IsWordOf}
use Rattle.control_lines.proofs.NumbersLemmas.{mag_below}
use Rattle.control_lines.proofs.HexCaseLemmas.{decode_of-lowered, decode_of-either, digit_no_blank}

-- ---- results

abbrev pub ok : {A : Type 0} → A → Result A Refusal
ok x = Ok x

pub ok_same : {A : Type 0} (x y : A) → ok x ≡ ok y → x ≡ y
ok_same x y e = cc

-- what an `Ok` after two steps shows
pub bind_ok : {A B : Type 0} (r : Result A Refusal) (next : A → Result B Refusal) (y : B) → (r >>= next) ≡ Ok y → (x : A) × (r ≡ Ok x) × (next x ≡ Ok y)
bind_ok (Ok x) next y h = (x, refl, h)
bind_ok (Err refusal) next y h = absurd (cc h)

-- and after a test
pub if_ok : {A : Type 0} (b : Bool) (r : Result A Refusal) (y : A) → (if b then r else Err BadLine) ≡ Ok y → (b ≡ true) × (r ≡ Ok y)
if_ok true r y h = (refl, h)
if_ok false r y h = absurd (cc h)

-- ---- words

-- no blank is in it
abbrev pub HasNoBlank : List ℕ → Type 0
HasNoBlank word = All (λ b. b ≢ 32) word

position_or_len-word : (word rest : List ℕ) → HasNoBlank word → position_or_len (λ b. b == 32) (word ++ 32 ∷ rest) ≡ length word
position_or_len-word [] rest h = refl
position_or_len-word (b ∷ word) rest h =
    let other = ne_eqb b 32 (All-head (λ x. x ≢ 32) b word h) in
    let more = position_or_len-word word rest (All-tail (λ x. x ≢ 32) b word h) in
    rw (other, more) (omega arith)

-- where a text has its first blank behind a word
record Splits (text word rest : List ℕ) : Type 0 where
  found : has_blank text ≡ true
  front : before_first (λ b. b == 32) text ≡ word
  back : after_first (λ b. b == 32) text ≡ rest

splits : (word rest : List ℕ) → HasNoBlank word → Splits (word ++ 32 ∷ rest) word rest
splits word rest h =
    let text = word ++ 32 ∷ rest in
    let index = position_or_len-word word rest h in
    let long : length text ≡ length word + suc (length rest) = length-append word (32 ∷ rest) in
    let inside : length word < length text = omega arith in record {
      found = rw index (search (rules, tests));
      front = rw index (take-append_seam word (32 ∷ rest));
      back = rw index (drop-append-add word (32 ∷ rest) 1);
    }

-- what stands behind a word: nothing, or a blank and the rest
abbrev pub behind : Option (List ℕ) → List ℕ
behind None = []
behind (Some s) = 32 ∷ s

blank_at : (g : ℕ) → not (g == 32) ≡ false → g ≡ 32
blank_at g h = eqb-true g 32 (not-false (g == 32) h)

-- what is read as a word stands in front, and the rest behind it
word_by : (t : Bool) (s : List ℕ) (w : List ℕ × Option (List ℕ)) → has_blank s ≡ t
    → (if t then ok (before_first (λ b. b == 32) s, Some (after_first (λ b. b == 32) s)) else ok (s, None)) ≡ ok w → s ≡ w.0 ++ behind w.1
word_by true s w found h =
    let p : ℕ → Bool = λ b. b == 32 in
    let inside : position_or_len p s < length s = ltb-true _ _ found in
    let blank : get_or s (position_or_len p s) 0 ≡ 32 = blank_at _ (prefix_len_stops (λ b. not (b == 32)) s 0 inside) in
    let same = ok_same _ w h in
    split_at_first p s 0 inside ∙ ap (λ b. before_first p s ++ b ∷ after_first p s) blank ∙ ap (λ (v : List ℕ × Option (List ℕ)). v.0 ++ behind v.1) same
word_by false s w found h =
    let same = ok_same _ w h in
    sym (append-nil s) ∙ ap (λ (v : List ℕ × Option (List ℕ)). v.0 ++ behind v.1) same

pub word_at-ok : (s : List ℕ) (w : List ℕ × Option (List ℕ)) → word_at (Some s) ≡ Ok w → s ≡ w.0 ++ behind w.1
word_at-ok s w h = word_by (has_blank s) s w refl h

-- what is read as a word has no blank
no_blank_at : (g : ℕ) → (g == 32) ≡ false → g ≢ 32
no_blank_at g other e = let same = eq-eqb g 32 e in absurd cc

before_blank : (s : List ℕ) (n : ℕ) → n ≤ length s → ((k : ℕ) → k < n → (get_or s k 0 == 32) ≡ false) → HasNoBlank (take n s)
before_blank s n within fails =
    All-from_get_or (λ b. b ≢ 32) (take n s) 0
    (λ i lt.
    let low : i < n = omega (arith, lt, length-take-le n s within) in
    let same : get_or (take n s) i 0 ≡ get_or s i 0 = get_or-take n s i 0 low in
    no_blank_at (get_or (take n s) i 0) (ap (λ g. g == 32) same ∙ fails i low))

word_free : (t : Bool) (s : List ℕ) (w : List ℕ × Option (List ℕ)) → has_blank s ≡ t
    → (if t then ok (before_first (λ b. b == 32) s, Some (after_first (λ b. b == 32) s)) else ok (s, None)) ≡ ok w → HasNoBlank w.0
word_free true s w found h =
    let p : ℕ → Bool = λ b. b == 32 in
    let inside : position_or_len p s < length s = ltb-true _ _ found in
    let same = ok_same _ w h in
    subst (λ (v : List ℕ × Option (List ℕ)). HasNoBlank v.0) same (before_blank s (position_or_len p s) (omega (arith, inside)) (λ k lt. fails_before_first p s k 0 lt))
word_free false s w found h =
    let p : ℕ → Bool = λ b. b == 32 in
    let whole : length s ≤ position_or_len p s = ltb-false _ _ found in
    let same = ok_same _ w h in
    subst (λ (v : List ℕ × Option (List ℕ)). HasNoBlank v.0) same
    (All-from_get_or (λ b. b ≢ 32) s 0 (λ i lt. no_blank_at (get_or s i 0) (fails_before_first p s i 0 (omega (arith, lt, whole)))))

pub word_at-free : (s : List ℕ) (w : List ℕ × Option (List ℕ)) → word_at (Some s) ≡ Ok w → HasNoBlank w.0
word_at-free s w h = word_free (has_blank s) s w refl h

position_or_len-none : (word : List ℕ) → HasNoBlank word → position_or_len (λ b. b == 32) word ≡ length word
position_or_len-none [] h = refl
position_or_len-none (b ∷ word) h =
    let other = ne_eqb b 32 (All-head (λ x. x ≢ 32) b word h) in
    let more = position_or_len-none word (All-tail (λ x. x ≢ 32) b word h) in
    rw (other, more) (omega arith)

-- a word without a blank is read, and what stands behind it
pub word_at-text : (word : List ℕ) (rest : Option (List ℕ)) → HasNoBlank word → word_at (Some (word ++ behind rest)) ≡ Ok (word, rest)
word_at-text word None h =
    let alone : has_blank word ≡ false = rw (position_or_len-none word h) (search (rules, tests)) in
    ap (λ s. word_at (Some s)) (append-nil word) ∙ rw alone
word_at-text word (Some rest) h =
    let parts = splits word rest h in
    rw (parts.found, parts.front, parts.back)

-- ---- numbers

no_blank : (b : ℕ) → IsInRange 48 57 b → b ≢ 32
no_blank b range e = absurd (omega (arith, range.0, range.1))

HasNoBlank-digits : (ds : List ℕ) → AllDigits 10 ds → HasNoBlank ds
HasNoBlank-digits ds h = All-from_get_or (λ b. b ≢ 32) ds 0 (λ i lt. no_blank (get_or ds i 0) (digit_at ds i h lt))

-- digits without a sign
value_of_digits : (ds : List ℕ) → 0 < length ds → AllDigits 10 ds → signed_digits_value 10 ds ≡ pos (digits_value 10 ds)
value_of_digits [] some h = absurd (omega arith)
value_of_digits (c ∷ cs) some h =
    let range : IsInRange 48 57 c = digit_at (c ∷ cs) 0 h some in
    let no_minus : c ≢ 45 = λ e. absurd (omega (arith, range.0, range.1)) in
    let no_plus : c ≢ 43 = λ e. absurd (omega (arith, range.0, range.1)) in
    rw (ne_eqb c 45 no_minus, ne_eqb c 43 no_plus)

record IsNumberText (z : ℤ) (text : List ℕ) : Type 0 where
  no_blank : HasNoBlank text
  value : signed_digits_value 10 text ≡ z

signed_decimal_is_text : (z : ℤ) → fits 63 z ≡ true → IsNumberText z (signed_decimal z)
signed_decimal_is_text (pos n) fit =
    let small : n < 2 ^ 63 = mag_below (pos n) fit in
    let text = decimal_is_IsNumeral n (omega arith) in record {
      no_blank = HasNoBlank-digits (decimal n) text.0.1;
      value = value_of_digits (decimal n) text.0.0 text.0.1 ∙ ap pos text.1;
    }
signed_decimal_is_text (negsuc n) fit =
    let small : n < 2 ^ 63 = mag_below (negsuc n) fit in
    let text = decimal_is_IsNumeral (suc n) (omega arith) in record {
      no_blank = All-cons (λ b. b ≢ 32) 45 (decimal (suc n)) (λ e. absurd (omega (arith, e))) (HasNoBlank-digits (decimal (suc n)) text.0.1);
      value = ap (λ v. neg_ℤ (pos v)) text.1;
    }

-- a number's text is read as it
pub long_of-text : (z : ℤ) → fits 63 z ≡ true → long_of (signed_decimal z) ≡ Ok z
unfolding long_of
long_of-text z fit =
    let value = (signed_decimal_is_text z fit).value in
    let same : bytes_eq (signed_decimal z) (signed_decimal z) ≡ true = (bytes_eq-Decides (signed_decimal z) (signed_decimal z)).1 refl in
    rw (value, same, fit)

fits_more : (z : ℤ) → fits 31 z ≡ true → fits 63 z ≡ true
fits_more (pos n) fit = search (rules, tests)
fits_more (negsuc n) fit = search (rules, tests)

int_of-text : (z : ℤ) → fits 31 z ≡ true → int_of (signed_decimal z) ≡ Ok z
unfolding int_of
int_of-text z fit = rw (long_of-text z (fits_more z fit), fit)

record IsNumber (word : List ℕ) (z : ℤ) (bits : ℕ) : Type 0 where
  spelled : word ≡ signed_decimal z
  fit : fits bits z ≡ true

long_of-ok : (word : List ℕ) (z : ℤ) → long_of word ≡ Ok z → IsNumber word z 63
unfolding long_of
long_of-ok word z h =
    let v = signed_digits_value 10 word in
    let parts = if_ok (bytes_eq (signed_decimal v) word && fits 63 v) (Ok v) z h in
    let tests = and_parts (bytes_eq (signed_decimal v) word) (fits 63 v) parts.0 in
    let same : v ≡ z = ok_same v z parts.1 in record {
      spelled = sym ((bytes_eq-Decides (signed_decimal v) word).0 tests.0) ∙ ap signed_decimal same;
      fit = ap (fits 63) (sym same) ∙ tests.1;
    }

int_of-ok : (word : List ℕ) (z : ℤ) → int_of word ≡ Ok z → IsNumber word z 31
unfolding int_of
int_of-ok word z h =
    let step = bind_ok (long_of word) _ z h in
    let parts = if_ok (fits 31 step.0) (Ok step.0) z step.2 in
    let same : step.0 ≡ z = ok_same step.0 z parts.1 in record {
      spelled = (long_of-ok word step.0 step.1).spelled ∙ ap signed_decimal same;
      fit = ap (fits 31) (sym same) ∙ parts.0;
    }

-- ---- bytes

some_bytes : (text : List ℕ) → 0 < length text → (length text == 0) ≡ false
some_bytes text some = ne_eqb (length text) 0 (λ e. absurd (omega (arith, e)))

-- digits in either case that stand for bytes
hex_bytes_of-digits : (digits bytes : List ℕ) → 0 < length digits → decode_of digits ≡ Ok bytes → hex_bytes_of digits ≡ Ok bytes
unfolding hex_bytes_of
hex_bytes_of-digits digits bytes some is = rw (some_bytes digits some, is)

pub some_length : (n : ℕ) → (n == 0) ≡ false → 0 < n
some_length zero e = absurd (cc e)
some_length (suc n) e = omega arith

record AreBytes (text bytes : List ℕ) : Type 0 where
  some : 0 < length bytes
  fit : IsBytes bytes
  lowered : map to_ascii_lowercase text ≡ encode_lower bytes

decoded_ok : (r : Result (List ℕ) FromHexError) (bytes : List ℕ) → decoded r ≡ Ok bytes → r ≡ Ok bytes
decoded_ok (Ok b) bytes h = ap Ok (ok_same b bytes h)
decoded_ok (Err e) bytes h = absurd (cc h)

bytes_by : (t : Bool) (text bytes : List ℕ) → (length text == 0) ≡ t → (if t then Err BadLine else decoded (decode_of text)) ≡ ok bytes → AreBytes text bytes
bytes_by true text bytes is h = absurd (cc h)
bytes_by false text bytes is h =
    let read = decoded_ok (decode_of text) bytes h in
    let shape = decode_of-ok text bytes read in
    let some = some_length (length text) is in
    record { some = omega (arith, shape.2); fit = shape.3; lowered = decode_of-lowered text bytes read }

hex_bytes_of-ok : (text bytes : List ℕ) → hex_bytes_of text ≡ Ok bytes → AreBytes text bytes
unfolding hex_bytes_of
hex_bytes_of-ok text bytes h = bytes_by (length text == 0) text bytes refl h

pub lowered_self : (bytes : List ℕ) → IsBytes bytes → map to_ascii_lowercase (encode_lower bytes) ≡ encode_lower bytes
lowered_self bytes fit = decode_of-lowered (encode_lower bytes) bytes (decode_of-encode_lower bytes fit)

-- ---- fields

plain_by : (t : Bool) (word v : List ℕ) → (length word == 0) ≡ t → (if t then Err BadLine else ok word) ≡ ok v → (0 < length v) × (word ≡ v)
plain_by true word v is h = absurd (cc h)
plain_by false word v is h =
    let same = ok_same word v h in
    (subst (λ w. 0 < length w) same (some_length (length word) is), same)

plain_of-ok : (word v : List ℕ) → plain_of word ≡ Ok v → (0 < length v) × (word ≡ v)
unfolding plain_of
plain_of-ok word v h = plain_by (length word == 0) word v refl h

plain_of-text : (word : List ℕ) → 0 < length word → plain_of word ≡ Ok word
unfolding plain_of
plain_of-text word some = rw (some_bytes word some)

pub value_of-ok : (k : Kind) (word : List ℕ) (v : Value k) → HasNoBlank word → value_of k word ≡ Ok v → IsFit k v × IsWordOf k v word
value_of-ok int word v free h = let is = int_of-ok word v h in (is.fit, is.spelled)
value_of-ok long word v free h = let is = long_of-ok word v h in (is.fit, is.spelled)
value_of-ok hex word v free h = let is = hex_bytes_of-ok word v h in ((is.some, is.fit), is.lowered)
value_of-ok plain word v free h = let is = plain_of-ok word v h in ((is.0, subst HasNoBlank is.1 free), is.1)

value_of-word : (k : Kind) (v : Value k) (word : List ℕ) → IsFit k v → IsWordOf k v word → value_of k word ≡ Ok v
value_of-word int v word fit is = ap int_of is ∙ int_of-text v fit
value_of-word long v word fit is = ap long_of is ∙ long_of-text v fit
value_of-word hex v word fit is =
    let read = decode_of-either word v fit.1 is in
    let shape = decode_of-ok word v read in
    let some = fit.0 in
    hex_bytes_of-digits word v (omega (arith, shape.2)) read
value_of-word plain v word fit is = ap plain_of is ∙ plain_of-text v fit.0

-- no blank is in a field's word
word_without : (k : Kind) (v : Value k) (word : List ℕ) → IsFit k v → IsWordOf k v word → HasNoBlank word
word_without int v word fit is = subst HasNoBlank (sym is) (signed_decimal_is_text v (fits_more v fit)).no_blank
word_without long v word fit is = subst HasNoBlank (sym is) (signed_decimal_is_text v fit).no_blank
word_without hex v word fit is =
    let shape = decode_of-ok word v (decode_of-either word v fit.1 is) in
    All-from_get_or (λ b. b ≢ 32) word 0 (λ i lt. digit_no_blank (get_or word i 0) (All-get_or (λ b. is_hex_digit b ≡ true) word i 0 lt shape.1))
word_without plain v word fit is = subst HasNoBlank (sym is) fit.1

-- what was read as a field
pub record IsField (k : Kind) (rest : Option (List ℕ)) (v : Value k × Option (List ℕ)) : Type 0 where
  pub word : List ℕ
  pub split : behind rest ≡ 32 ∷ (word ++ behind v.1)
  pub fit : IsFit k v.0
  pub spelled : IsWordOf k v.0 word

pub value_at-ok : (k : Kind) (rest : Option (List ℕ)) (v : Value k × Option (List ℕ)) → value_at k rest ≡ Ok v → IsField k rest v
value_at-ok k None v h = absurd (cc h)
value_at-ok k (Some s) v h =
    let word = bind_ok (word_at (Some s)) _ v h in
    let value = bind_ok (value_of k word.0.0) _ v word.2 in
    let same : (value.0, word.0.1) ≡ v = ok_same _ v value.2 in
    let is = value_of-ok k word.0.0 value.0 (word_at-free s word.0 word.1) value.1 in
    subst (IsField k (Some s)) same (record { word = word.0.0; split = ap (λ t. 32 ∷ t) (word_at-ok s word.0 word.1); fit = is.0; spelled = is.1 })

pub value_at-word : (k : Kind) (v : Value k) (word : List ℕ) (tail : Option (List ℕ)) → IsFit k v → IsWordOf k v word → value_at k (Some (word ++ behind tail)) ≡ Ok (v, tail)
value_at-word k v word tail fit is = rw (word_at-text word tail (word_without k v word fit is), value_of-word k v word fit is)

-- the one word of a value is a spelling of it
pub word_of-spelled : (k : Kind) (v : Value k) → IsFit k v → IsWordOf k v (word_of k v)
word_of-spelled int v fit = refl
word_of-spelled long v fit = refl
word_of-spelled hex v fit = lowered_self v fit.1
word_of-spelled plain v fit = refl
