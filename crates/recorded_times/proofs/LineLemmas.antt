-- Lines and their texts.
use Rattle.std.proofs.Common.{◌≡◌, ◌≢◌, ◌∙◌, ℕ, zero, suc, ◌+◌, ◌^◌, ◌<◌, ◌≤◌, Bool, true, false, not, if◌then◌else◌, ◌&&◌, ◌==◌, eqb-true, List, [], ◌∷◌, ◌++◌, length, get_or, Option, Some, None, Result, Ok, Err, refl, sym, subst, ap, ap₂, arith, rules, tests, ne_eqb}
use Rattle.std.specs.Prelude.{IfNone, IfSome, IsUtf8, MatchResult, nat_lt}
use Rattle.std.specs.List.{All, before_first, after_first, position_or_len}
use Rattle.std.specs.Str.{bytes_eq}
use Rattle.std.specs.Str.Parse.{digits_value, ParsesUnsigned}
use Rattle.std.specs.Fmt.{decimal}
use Rattle.std.specs.Int.{IsInRange}
use Rattle.std.proofs.lemmas.Bool.{not-false}
use Rattle.std.proofs.lemmas.Fmt.{IsAscii-decimal, decimal_is_IsNumeral, decimal_nonempty, parse-decimal}
use Rattle.std.proofs.lemmas.List.{drop_all}
use Rattle.std.proofs.lemmas.Str.{IsUtf8-from_ascii}
use Rattle.std.proofs.lemmas.List.Elements.{All-append, All-cons, All-from_get_or, All-head, All-nil, All-tail}
use Rattle.std.proofs.lemmas.List.Sums.{prefix_len_stops, split_at_first}
use Rattle.std.proofs.lemmas.Slice.Eq.{bytes_eq-Decides}
use Rattle.std.proofs.lemmas.Str.Parse.{digit_at}
use Rattle.std.proofs.Math.Seq.{take-append_seam, drop-append-add}
use Rattle.memchr.specs.Find.{IsFirstByte, is_byte}
use Rattle.recorded_times.specs.declared.line.TimesLine.{TimesLine}
use Rattle.recorded_times.specs.Times.{HasNoEnd, is_space, times_line_of, line_text, times_line_with, number_of}

-- ---- numbers

both : (a b : Bool) → (a && b) ≡ true → (a ≡ true) × (b ≡ true)
both true b e = (refl, e)
both false b e = (cc, cc)

-- a word is the text of its number
number_by : (t : Bool) (word : List ℕ) (n value : ℕ) → t ≡ (bytes_eq (decimal value) word && nat_lt value (2 ^ 64))
    → (if t then Some value else None) ≡ Some n → (word ≡ decimal n) × (n < 2 ^ 64)
number_by true word n value is some =
    let two = both (bytes_eq (decimal value) word) (nat_lt value (2 ^ 64)) (sym is) in
    let same : value ≡ n = cc in
    (sym ((bytes_eq-Decides (decimal value) word).0 two.0) ∙ ap decimal same, subst (λ v. v < 2 ^ 64) same (search (rules, tests)))
number_by false word n value is some = absurd (cc some)

pub number_of-some : (word : List ℕ) (n : ℕ) → number_of word ≡ Some n → (word ≡ decimal n) × (n < 2 ^ 64)
unfolding number_of
number_of-some word n some = number_by _ word n (digits_value 10 word) refl some

-- the number of a decimal text
pub number_of-decimal : (n : ℕ) → n < 2 ^ 64 → number_of (decimal n) ≡ Some n
unfolding number_of
number_of-decimal n below =
    let value : digits_value 10 (decimal n) ≡ n = (decimal_is_IsNumeral n below).1 in
    let same : bytes_eq (decimal n) (decimal n) ≡ true = (bytes_eq-Decides (decimal n) (decimal n)).1 refl in
    let low : nat_lt n (2 ^ 64) ≡ true = search (rules, tests) in
    rw (value, same, low)

-- what does not parse is no number
refused_by : {E : Type 0} (e : E) (word : List ℕ) (value : ℕ) (t : Bool) → t ≡ (bytes_eq (decimal value) word && nat_lt value (2 ^ 64))
    → ParsesUnsigned 64 10 word (Err e) → t ≡ false
refused_by e word value false is h = refl
refused_by e word value true is h =
    let two = both (bytes_eq (decimal value) word) (nat_lt value (2 ^ 64)) (sym is) in
    let same : word ≡ decimal value = sym ((bytes_eq-Decides (decimal value) word).0 two.0) in
    let below : value < 2 ^ 64 = search (rules, tests) in
    let read = parse-decimal 64 value word (Err e) below below same h in
    cc

pub number_of-refused : {E : Type 0} (r : Result ℕ E) (e : E) (word : List ℕ) → r ≡ Err e → ParsesUnsigned 64 10 word r → number_of word ≡ None
unfolding number_of
number_of-refused r e word is h =
    let no = refused_by e word (digits_value 10 word) (bytes_eq (decimal (digits_value 10 word)) word && nat_lt (digits_value 10 word) (2 ^ 64)) refl (rw is at h) in
    rw no

-- ---- digits

-- each byte of a decimal text is a digit
pub digits_of : (n : ℕ) → n < 2 ^ 64 → All (IsInRange 48 57) (decimal n)
digits_of n below = All-from_get_or (IsInRange 48 57) (decimal n) 0 (λ i within. digit_at (decimal n) i (decimal_is_IsNumeral n below).0.1 within)

no_blank : (b : ℕ) → IsInRange 48 57 b → b ≢ 32
no_blank b range e = absurd (omega (arith, range.0, range.1))

no_end : (b : ℕ) → IsInRange 48 57 b → b ≢ 10
no_end b range e = absurd (omega (arith, range.0, range.1))

pub free_of : (P : ℕ → Type 0) → ((b : ℕ) → IsInRange 48 57 b → P b) → (ds : List ℕ) → All (IsInRange 48 57) ds → All P ds
free_of P from [] digits = All-nil P
free_of P from (b ∷ ds) digits = All-cons P b ds (from b (All-head (IsInRange 48 57) b ds digits)) (free_of P from ds (All-tail (IsInRange 48 57) b ds digits))

-- ---- lines

-- where a text has its first blank
position-word : (word rest : List ℕ) → All (λ b. b ≢ 32) word → position_or_len is_space (word ++ 32 ∷ rest) ≡ length word
position-word [] rest h = refl
position-word (b ∷ word) rest h =
    let other = ne_eqb b 32 (All-head (λ x. x ≢ 32) b word h) in
    let more = position-word word rest (All-tail (λ x. x ≢ 32) b word h) in
    rw (other, more) (omega arith)

-- the text of a line is that line
pub times_line_of-text : (line : TimesLine) → line.millis < 2 ^ 64 → line.position < 2 ^ 64 → times_line_of (line_text line) ≡ Some line
times_line_of-text line millis position =
    let word = decimal line.millis in
    let rest = decimal line.position in
    let index = position-word word rest (free_of (λ b. b ≢ 32) no_blank word (digits_of line.millis millis)) in
    let front : before_first is_space (word ++ 32 ∷ rest) ≡ word = rw index (take-append_seam word (32 ∷ rest)) in
    let back : after_first is_space (word ++ 32 ∷ rest) ≡ rest = rw index (drop-append-add word (32 ∷ rest) 1) in
    ap₂ times_line_with (ap number_of front ∙ number_of-decimal line.millis millis) (ap number_of back ∙ number_of-decimal line.position position)

-- both numbers of a line are there
both_there : (first second : Option ℕ) (line : TimesLine) → times_line_with first second ≡ Some line → (first ≡ Some line.millis) × (second ≡ Some line.position)
both_there None second line is = absurd (cc is)
both_there (Some millis) None line is = absurd (cc is)
both_there (Some millis) (Some position) line is = (cc, cc)

-- what has no blank has nothing after it
after_none : (text : List ℕ) → length text ≤ position_or_len is_space text → after_first is_space text ≡ []
after_none text past = drop_all (position_or_len is_space text + 1) text (omega (arith, past))

-- the parts of a text around its first blank
around : (text : List ℕ) (a b : ℕ) → position_or_len is_space text < length text → before_first is_space text ≡ decimal a → after_first is_space text ≡ decimal b → text ≡ decimal a ++ 32 ∷ decimal b
around text a b inside front back =
    let blank : get_or text (position_or_len is_space text) 0 ≡ 32 = eqb-true _ 32 (not-false _ (prefix_len_stops (λ b. not (b == 32)) text 0 inside)) in
    split_at_first is_space text 0 inside ∙ ap₂ (λ front back. front ++ get_or text (position_or_len is_space text) 0 ∷ back) front back
    ∙ ap (λ b'. decimal a ++ b' ∷ decimal b) blank

-- a line's text is the text of that line
record Read (text : List ℕ) (line : TimesLine) : Type 0 where
  whole : text ≡ line_text line
  millis : line.millis < 2 ^ 64
  position : line.position < 2 ^ 64

read_by : (t : Bool) (text : List ℕ) (line : TimesLine) → t ≡ nat_lt (position_or_len is_space text) (length text)
    → (before_first is_space text ≡ decimal line.millis) × (line.millis < 2 ^ 64) → (after_first is_space text ≡ decimal line.position) × (line.position < 2 ^ 64) → Read text line
read_by true text line is first second =
    let inside : position_or_len is_space text < length text = search (rules, tests) in
    record { whole = around text line.millis line.position inside first.0 second.0; millis = first.1; position = second.1 }
read_by false text line is first second =
    let past : length text ≤ position_or_len is_space text = search (rules, tests) in
    let none : length (decimal line.position) ≡ 0 = ap length (sym second.0 ∙ after_none text past) in
    absurd (omega (arith, none, decimal_nonempty line.position second.1))

read : (text : List ℕ) (line : TimesLine) → times_line_of text ≡ Some line → Read text line
read text line is =
    let parts = both_there (number_of (before_first is_space text)) (number_of (after_first is_space text)) line is in
    read_by _ text line refl (number_of-some (before_first is_space text) line.millis parts.0) (number_of-some (after_first is_space text) line.position parts.1)

pub one_line : (text : List ℕ) (line : TimesLine) → times_line_of text ≡ Some line → (text ≡ line_text line) × (line.millis < 2 ^ 64) × (line.position < 2 ^ 64)
one_line text line is =
    let h = read text line is in
    (h.whole, h.millis, h.position)

pub one_text : (line : TimesLine) (text : List ℕ) → line.millis < 2 ^ 64 → line.position < 2 ^ 64
    → (times_line_of (line_text line) ≡ Some line) × (times_line_of text ≡ Some line → text ≡ line_text line)
one_text line text millis position = (times_line_of-text line millis position, λ is. (one_line text line is).0)

-- no line end is in a line's text
pub text_has_no_end : (line : TimesLine) → line.millis < 2 ^ 64 → line.position < 2 ^ 64 → HasNoEnd (line_text line)
text_has_no_end line millis position =
    All-append (λ b. b ≢ 10) (decimal line.millis) (32 ∷ decimal line.position) (free_of (λ b. b ≢ 10) no_end (decimal line.millis) (digits_of line.millis millis))
    (All-cons (λ b. b ≢ 10) 32 (decimal line.position) (λ e. absurd (cc e)) (free_of (λ b. b ≢ 10) no_end (decimal line.position) (digits_of line.position position)))

-- nor a hyphen
no_hyphen : (b : ℕ) → IsInRange 48 57 b → b ≢ 45
no_hyphen b range e = absurd (omega (arith, range.0, range.1))

pub text_has_no_hyphen : (line : TimesLine) → line.millis < 2 ^ 64 → line.position < 2 ^ 64 → All (λ b. b ≢ 45) (line_text line)
text_has_no_hyphen line millis position =
    All-append (λ b. b ≢ 45) (decimal line.millis) (32 ∷ decimal line.position) (free_of (λ b. b ≢ 45) no_hyphen (decimal line.millis) (digits_of line.millis millis))
    (All-cons (λ b. b ≢ 45) 32 (decimal line.position) (λ e. absurd (cc e)) (free_of (λ b. b ≢ 45) no_hyphen (decimal line.position) (digits_of line.position position)))

-- ---- what a word is

-- a word that is the text of a number is that number
pub number_is : (word : List ℕ) (value : ℕ) → value < 2 ^ 64 → word ≡ decimal value → number_of word ≡ Some value
number_is word value below is = ap number_of is ∙ number_of-decimal value below

-- a word that is not the text of what it parses as is no number
ok_one : {E : Type 0} (r : Result ℕ E) (a b : ℕ) → r ≡ Ok a → r ≡ Ok b → a ≡ b
ok_one (Ok x) a b one two = cc
ok_one (Err e) a b one two = absurd (cc one)

differs_by : {E : Type 0} (found : Option ℕ) (r : Result ℕ E) (value : ℕ) (word : List ℕ) → number_of word ≡ found → r ≡ Ok value → ParsesUnsigned 64 10 word r → (word ≡ decimal value → ⊥) → found ≡ None
differs_by None r value word is ok h other = refl
differs_by (Some n) r value word is ok h other =
    let parts = number_of-some word n is in
    let one : value ≡ n = ok_one r value n ok (parse-decimal 64 n word r parts.1 parts.1 parts.0 h) in
    absurd (other (parts.0 ∙ ap decimal (sym one)))

pub number_differs : {E : Type 0} (r : Result ℕ E) (value : ℕ) (word : List ℕ) → r ≡ Ok value → ParsesUnsigned 64 10 word r → (word ≡ decimal value → ⊥) → number_of word ≡ None
number_differs r value word ok h other = differs_by (number_of word) r value word refl ok h other

-- bytes that are no text are no number
unread_by : (found : Option ℕ) (word : List ℕ) → number_of word ≡ found → (IsUtf8 word → ⊥) → found ≡ None
unread_by None word is unread = refl
unread_by (Some n) word is unread =
    let parts = number_of-some word n is in
    absurd (unread (subst IsUtf8 (sym parts.0) (IsUtf8-from_ascii (decimal n) (IsAscii-decimal n parts.1))))

pub number_unread : (word : List ℕ) → (IsUtf8 word → ⊥) → number_of word ≡ None
number_unread word unread = unread_by (number_of word) word refl unread

-- ---- the first blank

pub blank_first : (text : List ℕ) (k : ℕ) → k < length text → ((j : ℕ) → j < k → get_or text j 0 ≢ 32) → get_or text k 0 ≡ 32 → position_or_len is_space text ≡ k
blank_first [] k within none is = absurd (omega (arith, within))
blank_first (b ∷ text) zero within none is = rw is refl
blank_first (b ∷ text) (suc k) within none is =
    let other = ne_eqb b 32 (none zero (omega arith)) in
    let more = blank_first text k (omega (arith, within)) (λ j lt. none (suc j) (omega (arith, lt))) is in
    rw (other, more) (omega arith)

pub blank_none : (text : List ℕ) → ((j : ℕ) → j < length text → get_or text j 0 ≢ 32) → length text ≤ position_or_len is_space text
blank_none [] none = omega arith
blank_none (b ∷ text) none =
    let other = ne_eqb b 32 (none zero (omega arith)) in
    let more = blank_none text (λ j lt. none (suc j) (omega (arith, lt))) in
    rw other (omega (arith, more))

-- the first byte that is a blank is there, or there is none
pub blank_by : (text : List ℕ) (r : Option ℕ) → IsFirstByte (is_byte 32) text r
    → IfSome r (λ at. (at < length text) × (position_or_len is_space text ≡ at)) × IfNone r (length text ≤ position_or_len is_space text)
blank_by text None h = (tt, blank_none text (λ j lt e. h j (omega arith) lt (rw e refl)))
blank_by text (Some k) h = ((h.0.high, blank_first text k h.0.high (λ j lt e. h.0.before j (omega arith) lt (rw e refl)) (eqb-true _ 32 h.1)), tt)

-- what a result says that is an error
pub match_err : {A E : Type 0} (P : A → Type 0) (Q : E → Type 0) (r : Result A E) (e : E) → r ≡ Err e → MatchResult r P Q → Q e
match_err P Q (Ok x) e is h = absurd (cc is)
match_err P Q (Err f) e is h = subst Q (cc) h

-- ---- a text without a blank

nil_by : (found : Option ℕ) → number_of [] ≡ found → found ≡ None
nil_by None is = refl
nil_by (Some n) is =
    let parts = number_of-some [] n is in
    let none : length (decimal n) ≡ 0 = ap length (sym parts.0) in
    absurd (omega (arith, none, decimal_nonempty n parts.1))

times_line_with-none : (first : Option ℕ) → times_line_with first None ≡ None
times_line_with-none None = refl
times_line_with-none (Some millis) = refl

pub no_line : (text : List ℕ) (r : Option ℕ) → r ≡ None → IfNone r (length text ≤ position_or_len is_space text) → times_line_of text ≡ None
no_line text None is past =
    ap (λ word. times_line_with (number_of (before_first is_space text)) (number_of word)) (after_none text past)
    ∙ ap (times_line_with (number_of (before_first is_space text))) (nil_by (number_of []) refl)
    ∙ times_line_with-none (number_of (before_first is_space text))
no_line text (Some k) is past = absurd (cc is)
