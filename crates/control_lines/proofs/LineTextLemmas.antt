-- Exactly the spellings of a line are read as it.
use Rattle.std.proofs.Common.{◌≡◌, ◌≢◌, ◌↔◌, ℕ, ◌<◌, ◌≤◌, zero, suc, Bool, true, false, not, if◌then◌else◌, ◌&&◌, ◌||◌, ◌==◌, nat_le, eq-eqb, leb-true, le-leb, List, [], ◌∷◌, ◌++◌, length, drop, Option, Some, None, Ok, Err, refl, sym, ◌∙◌, ap, subst, arith, rules, ne_eqb}
use Rattle.std.specs.List.{Contains}
use Rattle.std.specs.Str.{bytes_eq, is_utf8, IsUtf8}
use Rattle.std.proofs.lemmas.Str.{IsUtf8-from_is_utf8, is_utf8-from_IsUtf8}
use Rattle.std.proofs.lemmas.Bool.{and_parts}
use Rattle.std.proofs.lemmas.List.Elements.{All-cons}
use Rattle.std.proofs.lemmas.Slice.Eq.{bytes_eq-Decides}
use Rattle.frame_core.specs.declared.refusal.Refusal.TheVariants.{BadLine}
use Rattle.control_lines.specs.declared.line.Line.{Line}
use Rattle.control_lines.specs.Table.{Fields, none, text, ◌&◌, MakesLine, Row, rows}
use Rattle.control_lines.specs.Lines.{word_at, text_at, value_at, read, read_by, whole, text_of, read_of, line_of}
use Rattle.control_lines.specs.LineText.{Values, line_with, AreFit, text_with, word_of, AreSpelled, IsShortText, IsSpelling}
use Rattle.control_lines.proofs.WordLemmas.{ok, ok_same, some_length, bind_ok, HasNoBlank, behind, word_at-ok, word_at-text, value_at-ok, value_at-word, word_of-spelled}

-- ---- fields

-- what was read as fields, and nothing is left
record AreRead (fields : Fields) (make : MakesLine fields) (rest : Option (List ℕ)) (line : Line) : Type 0 where
  values : Values fields
  fit : AreFit fields values
  spelled : AreSpelled fields values (behind rest)
  made : line ≡ line_with fields make values

text_by : (t : Bool) (s : List ℕ) (r : List ℕ × Option (List ℕ)) → (length s == 0) ≡ t → (if t then Err BadLine else ok (s, None)) ≡ ok r → (s ≡ r.0) × (0 < length s)
text_by true s r is h = absurd (cc h)
text_by false s r is h =
    let same : (s, None) ≡ r = ok_same _ r h in
    (ap (λ (v : List ℕ × Option (List ℕ)). v.0) same, some_length (length s) is)

text_at-ok : (rest : Option (List ℕ)) (r : List ℕ × Option (List ℕ)) → text_at rest ≡ ok r → (behind rest ≡ 32 ∷ r.0) × (0 < length r.0)
text_at-ok None r h = absurd (cc h)
text_at-ok (Some s) r h =
    let is = text_by (length s == 0) s r refl h in
    (ap (λ v. 32 ∷ v) is.0, subst (λ v. 0 < length v) is.0 is.1)

read-ok : (fields : Fields) (make : MakesLine fields) (rest : Option (List ℕ)) (r : Line × Option (List ℕ)) → read fields make rest ≡ ok r → r.1 ≡ None → AreRead fields make rest r.0
read-ok none make rest r h end =
    let same : (make, rest) ≡ r = ok_same _ r h in
    let left : rest ≡ None = ap (λ (v : Line × Option (List ℕ)). v.1) same ∙ end in
    record { values = tt; fit = tt; spelled = ap behind left; made = ap (λ (v : Line × Option (List ℕ)). v.0) (sym same) }
read-ok text make rest r h end =
    let last = bind_ok (text_at rest) _ r h in
    let is = text_at-ok rest last.0 last.1 in
    let same = ok_same _ r last.2 in
    record { values = last.0.0; fit = is.1; spelled = is.0; made = ap (λ (v : Line × Option (List ℕ)). v.0) (sym same) }
read-ok (k & fields) make rest r h end =
    let first = bind_ok (value_at k rest) _ r h in
    let is = value_at-ok k rest first.0 first.1 in
    let more = read-ok fields (make first.0.0) first.0.1 r first.2 end in
    record { values = (first.0.0, more.values); fit = (is.fit, more.fit); spelled = (is.word, behind first.0.1, is.split, is.spelled, more.spelled); made = more.made }

-- a spelling of fields is nothing, or begins with a blank
rest_of : (fields : Fields) (values : Values fields) (s : List ℕ) → AreSpelled fields values s → (rest : Option (List ℕ)) × (s ≡ behind rest)
rest_of none values s is = (None, is)
rest_of text values s is = (Some values, is)
rest_of (k & fields) values s is = (Some (is.0 ++ is.1), is.2)

some_text : (s : List ℕ) → 0 < length s → (length s == 0) ≡ false
some_text s some = ne_eqb (length s) 0 (λ e. absurd (omega (arith, e)))

behind_same : (rest : Option (List ℕ)) (s : List ℕ) → behind rest ≡ 32 ∷ s → rest ≡ Some s
behind_same None s e = absurd (cc e)
behind_same (Some r) s e = ap Some (ap (λ (v : List ℕ). drop 1 v) e)

behind_none : (rest : Option (List ℕ)) → behind rest ≡ [] → rest ≡ None
behind_none None e = refl
behind_none (Some r) e = absurd (cc e)

read-spelled : (fields : Fields) (make : MakesLine fields) (values : Values fields) (rest : Option (List ℕ)) → AreFit fields values → AreSpelled fields values (behind rest)
    → read fields make rest ≡ Ok (line_with fields make values, None)
read-spelled none make values rest fit is = ap (λ r. ok (make, r)) (behind_none rest is)
read-spelled text make values rest fit is = ap (λ r. read text make r) (behind_same rest values is) ∙ rw (some_text values fit)
read-spelled (k & fields) make values rest fit is =
    let tail = rest_of fields values.1 is.1 is.4 in
    let here : rest ≡ Some (is.0 ++ behind tail.0) = behind_same rest _ (is.2 ∙ ap (λ t. 32 ∷ (is.0 ++ t)) tail.1) in
    let more = read-spelled fields (make values.0) values.1 tail.0 fit.1 (subst (AreSpelled fields values.1) tail.1 is.4) in
    ap (λ r. read (k & fields) make r) here ∙ rw (value_at-word k values.0 is.0 tail.0 fit.0 is.3) more

-- the one text is a spelling
pub text_with-spelled : (fields : Fields) (values : Values fields) → AreFit fields values → AreSpelled fields values (text_with fields values)
text_with-spelled none values fit = refl
text_with-spelled text values fit = refl
text_with-spelled (k & fields) values fit =
    (word_of k values.0, text_with fields values.1, refl, word_of-spelled k values.0 fit.0, text_with-spelled fields values.1 fit.1)

-- ---- rows

abbrev is_named : List Row → List ℕ → Bool
is_named [] word = false
is_named (row ∷ others) word = bytes_eq word row.word || is_named others word

abbrev has_no_blank : List ℕ → Bool
has_no_blank [] = true
has_no_blank (b ∷ word) = not (b == 32) && has_no_blank word

-- each row has a word of its own, without a blank
abbrev are_apart : List Row → Bool
are_apart [] = true
are_apart (row ∷ others) = (has_no_blank row.word && not (is_named others row.word)) && are_apart others

no_eq : (b : ℕ) → not (b == 32) ≡ true → b ≢ 32
no_eq b h e = let same = eq-eqb b 32 e in cc

plain : (word : List ℕ) → has_no_blank word ≡ true → HasNoBlank word
plain [] h = search rules
plain (b ∷ word) h =
    let parts = and_parts (not (b == 32)) (has_no_blank word) h in
    All-cons (λ x. x ≢ 32) b word (no_eq b parts.0) (plain word parts.1)

or_left : (a b : Bool) → a ≡ true → (a || b) ≡ true
or_left true b h = refl
or_left false b h = absurd (cc h)

or_right : (a b : Bool) → b ≡ true → (a || b) ≡ true
or_right true b h = refl
or_right false b h = h

same_word : (word : List ℕ) → bytes_eq word word ≡ true
same_word word = (bytes_eq-Decides word word).1 refl

named : (rs : List Row) (row : Row) → Contains rs row → is_named rs row.word ≡ true
named [] row (k, lt, e) = absurd (omega (arith, lt))
named (r ∷ rs) row (zero, lt, e) = or_left _ _ (subst (λ (q : Row). bytes_eq row.word q.word ≡ true) (sym e) (same_word row.word))
named (r ∷ rs) row (suc k, lt, e) = or_right _ _ (named rs row (k, omega (arith, lt), e))

-- a row of the table reads what stands behind its word
record IsRowOf (rs : List Row) (row : Row) : Type 0 where
  no_blank : HasNoBlank row.word
  reads : (rest : Option (List ℕ)) → read_by rs row.word rest ≡ read row.fields row.line rest

other_word : (t : Bool) (rs : List Row) (row r : Row) → bytes_eq row.word r.word ≡ t → is_named rs row.word ≡ true → not (is_named rs r.word) ≡ true → t ≡ false
other_word false rs row r is among apart = refl
other_word true rs row r is among apart =
    let same = (bytes_eq-Decides row.word r.word).0 is in
    let again : is_named rs r.word ≡ true = subst (λ w. is_named rs w ≡ true) same among in
    let no : not true ≡ true = subst (λ t. not t ≡ true) again apart in
    absurd (cc no)

row_of : (rs : List Row) (row : Row) → Contains rs row → are_apart rs ≡ true → IsRowOf rs row
row_of [] row (k, lt, e) apart = absurd (omega (arith, lt))
row_of (r ∷ rs) row (zero, lt, e) apart =
    let parts = and_parts (has_no_blank r.word && not (is_named rs r.word)) (are_apart rs) apart in
    let own = and_parts (has_no_blank r.word) (not (is_named rs r.word)) parts.0 in
    subst (λ (q : Row). IsRowOf (r ∷ rs) q) e (record { no_blank = plain r.word own.0; reads = λ rest. rw (same_word r.word) refl })
row_of (r ∷ rs) row (suc k, lt, e) apart =
    let parts = and_parts (has_no_blank r.word && not (is_named rs r.word)) (are_apart rs) apart in
    let own = and_parts (has_no_blank r.word) (not (is_named rs r.word)) parts.0 in
    let inner : Contains rs row = (k, omega (arith, lt), e) in
    let more = row_of rs row inner parts.1 in
    let other = other_word (bytes_eq row.word r.word) rs row r refl (named rs row inner) own.1 in
    record { no_blank = more.no_blank; reads = λ rest. rw other (more.reads rest) }

-- what is read is read by a row
record IsReadBy (rs : List Row) (word : List ℕ) (rest : Option (List ℕ)) (r : Line × Option (List ℕ)) : Type 0 where
  row : Row
  listed : Contains rs row
  same : word ≡ row.word
  reads : read row.fields row.line rest ≡ ok r

read_by-case : (t : Bool) (row : Row) (rs : List Row) (word : List ℕ) (rest : Option (List ℕ)) (r : Line × Option (List ℕ)) → bytes_eq word row.word ≡ t
    → (read_by rs word rest ≡ ok r → IsReadBy rs word rest r)
    → (if t then read row.fields row.line rest else read_by rs word rest) ≡ ok r → IsReadBy (row ∷ rs) word rest r
read_by-case true row rs word rest r is later h =
    record { row = row; listed = (0, omega arith, refl); same = (bytes_eq-Decides word row.word).0 is; reads = h }
read_by-case false row rs word rest r is later h =
    let more = later h in
    let at = more.listed in
    record { row = more.row; listed = (suc at.0, omega (arith, at.1), at.2); same = more.same; reads = more.reads }

read_by-ok : (rs : List Row) (word : List ℕ) (rest : Option (List ℕ)) (r : Line × Option (List ℕ)) → read_by rs word rest ≡ ok r → IsReadBy rs word rest r
read_by-ok [] word rest r h = absurd (cc h)
read_by-ok (row ∷ rs) word rest r h = read_by-case (bytes_eq word row.word) row rs word rest r refl (read_by-ok rs word rest r) h

-- ---- lines

whole_by : (r : Line × Option (List ℕ)) (line : Line) → whole r ≡ ok line → (r.0 ≡ line) × (r.1 ≡ None)
whole_by (l, None) line h = (ok_same l line h, refl)
whole_by (l, Some s) line h = absurd (cc h)

-- a text that is read is a spelling, if it is short
text_ok : (s : List ℕ) (line : Line) → IsShortText s → text_of s ≡ ok line → IsSpelling line s
unfolding text_of
text_ok s line short h =
    let first = bind_ok (word_at (Some s)) _ line h in
    let later = bind_ok (read_by rows first.0.0 first.0.1) _ line first.2 in
    let end = whole_by later.0 line later.2 in
    let by = read_by-ok rows first.0.0 first.0.1 later.0 later.1 in
    let is = read-ok by.row.fields by.row.line first.0.1 later.0 by.reads end.1 in
    record {
      row = by.row;
      listed = by.listed;
      values = is.values;
      fit = is.fit;
      made = sym end.0 ∙ is.made;
      rest = behind first.0.1;
      split = word_at-ok s first.0 first.1 ∙ ap (λ w. w ++ behind first.0.1) by.same;
      spelled = is.spelled;
      short = short;
    }

text_read : (s : List ℕ) (line : Line) → IsSpelling line s → text_of s ≡ ok line
unfolding text_of
text_read s line is =
    let row = is.row in
    let of = row_of rows row is.listed refl in
    let tail = rest_of row.fields is.values is.rest is.spelled in
    let word = word_at-text row.word tail.0 of.no_blank in
    let fields = read-spelled row.fields row.line is.values tail.0 is.fit (subst (AreSpelled row.fields is.values) tail.1 is.spelled) in
    ap text_of (is.split ∙ ap (λ t. row.word ++ t) tail.1) ∙ rw (word, of.reads tail.0, fields) (ap ok (sym is.made))

utf8_by : (t : Bool) (s : List ℕ) (line : Line) → is_utf8 s ≡ t → (if t then text_of s else Err BadLine) ≡ ok line → IsUtf8 s × (text_of s ≡ ok line)
utf8_by true s line is h = (IsUtf8-from_is_utf8 s is, h)
utf8_by false s line is h = absurd (cc h)

utf8_ok : (s : List ℕ) (line : Line) → read_of s ≡ ok line → IsUtf8 s × (text_of s ≡ ok line)
unfolding read_of
utf8_ok s line h = utf8_by (is_utf8 s) s line refl h

utf8_read : (s : List ℕ) (line : Line) → IsUtf8 s → text_of s ≡ ok line → read_of s ≡ ok line
unfolding read_of
utf8_read s line utf8 h = rw (is_utf8-from_IsUtf8 s utf8) h

short_by : (t : Bool) (s : List ℕ) (line : Line) → nat_le (length s) 262144 ≡ t → (if t then read_of s else Err BadLine) ≡ ok line → (length s ≤ 262144) × (read_of s ≡ ok line)
short_by true s line is h = (leb-true _ _ is, h)
short_by false s line is h = absurd (cc h)

line_ok : (s : List ℕ) (line : Line) → line_of s ≡ ok line → IsSpelling line s
unfolding line_of
line_ok s line h =
    let short = short_by (nat_le (length s) 262144) s line refl h in
    let utf8 = utf8_ok s line short.1 in
    text_ok s line (utf8.0, short.0) utf8.1

line_read : (s : List ℕ) (line : Line) → IsSpelling line s → line_of s ≡ ok line
unfolding line_of
line_read s line is = rw (le-leb _ _ is.short.1) (utf8_read s line is.short.0 (text_read s line is))

-- exactly the spellings of a line are read as it
pub line_is_read : (line : Line) (s : List ℕ) → (line_of s ≡ Ok line) ↔ IsSpelling line s
line_is_read line s = (line_ok s line, line_read s line)

-- the one text of a row's values is read as their line
pub text_is_read : (row : Row) (values : Values row.fields) → Contains rows row → AreFit row.fields values → IsShortText (row.word ++ text_with row.fields values)
    → line_of (row.word ++ text_with row.fields values) ≡ Ok (line_with row.fields row.line values)
text_is_read row values listed fit short =
    line_read _ _ (record {
      row = row;
      listed = listed;
      values = values;
      fit = fit;
      made = refl;
      rest = text_with row.fields values;
      split = refl;
      spelled = text_with-spelled row.fields values fit;
      short = short;
    })
