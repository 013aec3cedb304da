-- The texts and the lines of bytes.
use Rattle.std.proofs.Common.{◌≡◌, ◌≢◌, ◌∙◌, ℕ, ◌<◌, ◌^◌, Bool, true, false, if◌then◌else◌, ◌==◌, List, [], ◌∷◌, ◌++◌, Option, Some, None, inl, inr, refl, sym, subst, ap, rules, tests, append_assoc, append-nil, ne_eqb}
use Rattle.std.specs.List.{All, cons_option, filter_map}
use Rattle.std.proofs.lemmas.List.Elements.{All-append, All-cons, All-head, All-nil, All-tail, filter_map-append}
use Rattle.recorded_times.specs.declared.line.TimesLine.{TimesLine}
use Rattle.recorded_times.specs.Due.{IsEnded, added_text, mark, mark_of}
use Rattle.recorded_times.specs.Times.{HasNoEnd, times_line_of, line_text, times_lines_of, with_longer_first, whole_texts}
use Rattle.recorded_times.proofs.LineLemmas.{times_line_of-text, one_line, text_has_no_end, text_has_no_hyphen}

-- ---- texts

-- the texts after one more byte in front
abbrev step : Bool → ℕ → List (List ℕ) → List (List ℕ)
step t b texts = if t then [] ∷ texts else with_longer_first b texts

longer-append : (b : ℕ) (texts more : List (List ℕ)) → texts ≢ [] → with_longer_first b (texts ++ more) ≡ with_longer_first b texts ++ more
longer-append b [] more some = absurd (some refl)
longer-append b (text ∷ texts) more some = refl

step-append : (t : Bool) (b : ℕ) (texts more : List (List ℕ)) → texts ≢ [] → step t b (texts ++ more) ≡ step t b texts ++ more
step-append true b texts more some = refl
step-append false b texts more some = longer-append b texts more some

longer-some : (b : ℕ) (texts : List (List ℕ)) → texts ≢ [] → with_longer_first b texts ≢ []
longer-some b [] some = absurd (some refl)
longer-some b (text ∷ texts) some = λ e. cc e

step-some : (t : Bool) (b : ℕ) (texts : List (List ℕ)) → texts ≢ [] → step t b texts ≢ []
step-some true b texts some = λ e. cc e
step-some false b texts some = longer-some b texts some

-- bytes with a line end have a text
ended-some : (front : List ℕ) → whole_texts (front ++ 10 ∷ []) ≢ []
ended-some [] = λ e. cc e
ended-some (b ∷ front) = step-some (b == 10) b (whole_texts (front ++ 10 ∷ [])) (ended-some front)

texts-append : (front bytes : List ℕ) → whole_texts ((front ++ 10 ∷ []) ++ bytes) ≡ whole_texts (front ++ 10 ∷ []) ++ whole_texts bytes
texts-append [] bytes = refl
texts-append (b ∷ front) bytes =
    ap (step (b == 10) b) (texts-append front bytes) ∙ step-append (b == 10) b (whole_texts (front ++ 10 ∷ [])) (whole_texts bytes) (ended-some front)

-- a text with its end is the first one
pub texts-ended : (text more : List ℕ) → HasNoEnd text → whole_texts (text ++ 10 ∷ more) ≡ text ∷ whole_texts more
texts-ended [] more no_end = refl
texts-ended (b ∷ text) more no_end =
    let other = ne_eqb b 10 (All-head (λ x. x ≢ 10) b text no_end) in
    rw (other, texts-ended text more (All-tail (λ x. x ≢ 10) b text no_end))

-- without an end there is no text
pub texts-rest : (rest : List ℕ) → HasNoEnd rest → whole_texts rest ≡ []
texts-rest [] no_end = refl
texts-rest (b ∷ rest) no_end =
    let other = ne_eqb b 10 (All-head (λ x. x ≢ 10) b rest no_end) in
    rw (other, texts-rest rest (All-tail (λ x. x ≢ 10) b rest no_end))

-- ---- lines

pub lines-append : (front bytes : List ℕ) → IsEnded front → times_lines_of (front ++ bytes) ≡ times_lines_of front ++ times_lines_of bytes
lines-append front bytes (inl none) = rw none
lines-append front bytes (inr (texts, is)) =
    ap (λ f. times_lines_of (f ++ bytes)) is ∙ ap (filter_map times_line_of) (texts-append texts bytes) ∙ filter_map-append times_line_of (whole_texts (texts ++ 10 ∷ [])) (whole_texts bytes)
    ∙ ap (λ f. times_lines_of f ++ times_lines_of bytes) (sym is)

pub lines-rest : (rest : List ℕ) → HasNoEnd rest → times_lines_of rest ≡ []
lines-rest rest no_end = ap (filter_map times_line_of) (texts-rest rest no_end)

-- the first text is a line, or none
pub lines-first : (text rest : List ℕ) (line : TimesLine) → HasNoEnd text → times_line_of text ≡ Some line → times_lines_of (text ++ 10 ∷ rest) ≡ line ∷ times_lines_of rest
lines-first text rest line no_end is = ap (filter_map times_line_of) (texts-ended text rest no_end) ∙ ap (λ first. cons_option first (times_lines_of rest)) is

pub lines-skip : (text rest : List ℕ) → HasNoEnd text → times_line_of text ≡ None → times_lines_of (text ++ 10 ∷ rest) ≡ times_lines_of rest
lines-skip text rest no_end is = ap (filter_map times_line_of) (texts-ended text rest no_end) ∙ ap (λ first. cons_option first (times_lines_of rest)) is

-- ---- what is added

-- bytes are ended ones, and then a rest without an end
pub record Parted (bytes : List ℕ) : Type 0 where
  pub front : List ℕ
  pub rest : List ℕ
  pub whole : bytes ≡ front ++ rest
  pub ended : IsEnded front
  pub no_end : HasNoEnd rest

ended-cons : (b : ℕ) (front : List ℕ) → IsEnded front → front ≢ [] → IsEnded (b ∷ front)
ended-cons b front (inl none) some = absurd (some none)
ended-cons b front (inr (texts, is)) some = inr (b ∷ texts, ap (λ f. b ∷ f) is)

-- one byte more in front
parted_one : (t : Bool) (b : ℕ) (bytes : List ℕ) → (b == 10) ≡ t → Parted bytes → Parted (b ∷ bytes)
parted_one true b bytes is h = by h.front refl h.ended
  where
    ten : b ≡ 10
    ten = search (rules, tests)

    by : (front : List ℕ) → h.front ≡ front → IsEnded front → Parted (b ∷ bytes)
    by [] same ended = record {
      front = b ∷ [];
      rest = h.rest;
      whole = ap (λ bs. b ∷ bs) (h.whole ∙ ap (λ f. f ++ h.rest) same);
      ended = inr ([], ap (λ x. x ∷ []) ten);
      no_end = h.no_end;
    }
    by (x ∷ front) same ended = record {
      front = b ∷ (x ∷ front);
      rest = h.rest;
      whole = ap (λ bs. b ∷ bs) (h.whole ∙ ap (λ f. f ++ h.rest) same);
      ended = ended-cons b (x ∷ front) ended (λ e. cc e);
      no_end = h.no_end;
    }
parted_one false b bytes is h = by h.front refl h.ended
  where
    other : b ≢ 10
    other e = search (rules, tests)

    by : (front : List ℕ) → h.front ≡ front → IsEnded front → Parted (b ∷ bytes)
    by [] same ended = record {
      front = [];
      rest = b ∷ h.rest;
      whole = ap (λ bs. b ∷ bs) (h.whole ∙ ap (λ f. f ++ h.rest) same);
      ended = inl refl;
      no_end = All-cons (λ x. x ≢ 10) b h.rest other h.no_end;
    }
    by (x ∷ front) same ended = record {
      front = b ∷ (x ∷ front);
      rest = h.rest;
      whole = ap (λ bs. b ∷ bs) (h.whole ∙ ap (λ f. f ++ h.rest) same);
      ended = ended-cons b (x ∷ front) ended (λ e. cc e);
      no_end = h.no_end;
    }

pub parted : (bytes : List ℕ) → Parted bytes
parted [] = record { front = []; rest = []; whole = refl; ended = inl refl; no_end = All-nil (λ x. x ≢ 10) }
parted (b ∷ bytes) = parted_one (b == 10) b bytes refl (parted bytes)

-- the last byte of a list
last_is : (P : ℕ → Type 0) (front : List ℕ) (b : ℕ) → All P (front ++ b ∷ []) → P b
last_is P [] b all = All-head P b [] all
last_is P (x ∷ front) b all = last_is P front b (All-tail P x (front ++ b ∷ []) all)

-- a text that ends with a hyphen is no line
hyphen_last : (rest : List ℕ) (line : TimesLine) → rest ++ 45 ∷ [] ≡ line_text line → line.millis < 2 ^ 64 → line.position < 2 ^ 64 → ⊥
hyphen_last rest line same millis position =
    last_is (λ b. b ≢ 45) rest 45 (subst (All (λ b. b ≢ 45)) (sym same) (text_has_no_hyphen line millis position)) refl

marked_by : (rest : List ℕ) (found : Option TimesLine) → times_line_of (rest ++ 45 ∷ []) ≡ found → found ≡ None
marked_by rest None is = refl
marked_by rest (Some line) is =
    let parts = one_line (rest ++ 45 ∷ []) line is in
    absurd (hyphen_last rest line parts.0 parts.1 parts.2)

marked : (rest : List ℕ) → times_line_of (rest ++ 45 ∷ []) ≡ None
marked rest = marked_by rest (times_line_of (rest ++ 45 ∷ [])) refl

-- whatever the bytes were, a mark ends them, and adds no line
pub ended-mark : (bytes : List ℕ) → IsEnded (bytes ++ mark)
ended-mark bytes = inr (bytes ++ 45 ∷ [], sym (append_assoc bytes (45 ∷ []) (10 ∷ [])))

pub lines-mark : (bytes : List ℕ) → times_lines_of (bytes ++ mark) ≡ times_lines_of bytes
lines-mark bytes =
    let h = parted bytes in
    let no_end : HasNoEnd (h.rest ++ 45 ∷ []) = All-append (λ x. x ≢ 10) h.rest (45 ∷ []) h.no_end (All-cons (λ x. x ≢ 10) 45 [] (λ e. absurd (cc e)) (All-nil (λ x. x ≢ 10))) in
    ap (λ bs. times_lines_of (bs ++ mark)) h.whole
    ∙ ap times_lines_of (append_assoc h.front h.rest mark)
    ∙ lines-append h.front (h.rest ++ mark) h.ended
    ∙ ap (λ bs. times_lines_of h.front ++ times_lines_of bs) (sym (append_assoc h.rest (45 ∷ []) (10 ∷ [])))
    ∙ ap (λ ls. times_lines_of h.front ++ ls) (lines-skip (h.rest ++ 45 ∷ []) [] no_end (marked h.rest))
    ∙ sym (lines-append h.front h.rest h.ended ∙ ap (λ ls. times_lines_of h.front ++ ls) (lines-rest h.rest h.no_end))
    ∙ ap times_lines_of (sym h.whole)

-- the same of its first byte alone
pub lines-hyphen : (bytes : List ℕ) → times_lines_of (bytes ++ 45 ∷ []) ≡ times_lines_of bytes
lines-hyphen bytes =
    let h = parted bytes in
    let no_end : HasNoEnd (h.rest ++ 45 ∷ []) = All-append (λ x. x ≢ 10) h.rest (45 ∷ []) h.no_end (All-cons (λ x. x ≢ 10) 45 [] (λ e. absurd (cc e)) (All-nil (λ x. x ≢ 10))) in
    ap (λ bs. times_lines_of (bs ++ 45 ∷ [])) h.whole
    ∙ ap times_lines_of (append_assoc h.front h.rest (45 ∷ []))
    ∙ lines-append h.front (h.rest ++ 45 ∷ []) h.ended
    ∙ ap (λ ls. times_lines_of h.front ++ ls) (lines-rest (h.rest ++ 45 ∷ []) no_end)
    ∙ sym (lines-append h.front h.rest h.ended ∙ ap (λ ls. times_lines_of h.front ++ ls) (lines-rest h.rest h.no_end))
    ∙ ap times_lines_of (sym h.whole)

module _ (line : TimesLine) (millis : line.millis < 2 ^ 64) (position : line.position < 2 ^ 64) where
  -- a line's text with its end, after ended bytes
  adds_to : (bytes : List ℕ) → IsEnded bytes → (times_lines_of (bytes ++ (line_text line ++ 10 ∷ [])) ≡ times_lines_of bytes ++ line ∷ []) × IsEnded (bytes ++ (line_text line ++ 10 ∷ []))
  adds_to bytes ended = (
    lines-append bytes (line_text line ++ 10 ∷ []) ended ∙ ap (λ ls. times_lines_of bytes ++ ls) (lines-first (line_text line) [] line (text_has_no_end line millis position) (times_line_of-text line millis position)),
    inr (bytes ++ line_text line, sym (append_assoc bytes (line_text line) (10 ∷ []))),
  )

  pub adds : (is_begun : Bool) (bytes : List ℕ) → (is_begun ≡ true → IsEnded bytes)
      → (times_lines_of (bytes ++ added_text is_begun line) ≡ times_lines_of bytes ++ line ∷ []) × IsEnded (bytes ++ added_text is_begun line)
  adds true bytes ended = adds_to bytes (ended refl)
  adds false bytes ended =
      let parts = adds_to (bytes ++ mark) (ended-mark bytes) in
      let same : (bytes ++ mark) ++ (line_text line ++ 10 ∷ []) ≡ bytes ++ (mark ++ (line_text line ++ 10 ∷ [])) = append_assoc bytes mark (line_text line ++ 10 ∷ []) in
      (ap times_lines_of (sym same) ∙ parts.0 ∙ ap (λ ls. ls ++ line ∷ []) (lines-mark bytes), subst IsEnded same parts.1)

-- a front of a text and its end, without that end, is a front of the text
front_of : (torn rest text : List ℕ) → text ++ 10 ∷ [] ≡ torn ++ rest → rest ≢ [] → HasNoEnd text → HasNoEnd torn
front_of [] rest text is some no_end = All-nil (λ x. x ≢ 10)
front_of (b ∷ torn) rest [] is some no_end = absurd (some (torn_nil torn rest (cc is)))
  where
    torn_nil : (torn rest : List ℕ) → [] ≡ torn ++ rest → rest ≡ []
    torn_nil [] rest e = sym e
    torn_nil (x ∷ torn) rest e = absurd (cc e)
front_of (b ∷ torn) rest (c ∷ text) is some no_end =
    let same : b ≡ c = cc in
    let tails : text ++ 10 ∷ [] ≡ torn ++ rest = cc in
    All-cons (λ x. x ≢ 10) b torn (subst (λ x. x ≢ 10) (sym same) (All-head (λ x. x ≢ 10) c text no_end)) (front_of torn rest text tails some (All-tail (λ x. x ≢ 10) c text no_end))

module _ (line : TimesLine) (millis : line.millis < 2 ^ 64) (position : line.position < 2 ^ 64) where
  torn_after : (bytes torn rest : List ℕ) → IsEnded bytes → line_text line ++ 10 ∷ [] ≡ torn ++ rest → rest ≢ [] → times_lines_of (bytes ++ torn) ≡ times_lines_of bytes
  torn_after bytes torn rest ended is some =
      lines-append bytes torn ended ∙ ap (λ ls. times_lines_of bytes ++ ls) (lines-rest torn (front_of torn rest (line_text line) is some (text_has_no_end line millis position))) ∙ append-nil (times_lines_of bytes)

  pub torn_adds_none : (is_begun : Bool) (bytes torn rest : List ℕ) → (is_begun ≡ true → IsEnded bytes) → added_text is_begun line ≡ torn ++ rest → rest ≢ []
      → times_lines_of (bytes ++ torn) ≡ times_lines_of bytes
  torn_adds_none true bytes torn rest ended is some = torn_after bytes torn rest (ended refl) is some
  torn_adds_none false bytes [] rest ended is some = ap times_lines_of (append-nil bytes)
  torn_adds_none false bytes (a ∷ []) rest ended is some = let first : a ≡ 45 = cc in rw first (lines-hyphen bytes)
  torn_adds_none false bytes (a ∷ (b ∷ torn)) rest ended is some =
      let first : a ≡ 45 = cc in
      let second : b ≡ 10 = cc in
      let tails : line_text line ++ 10 ∷ [] ≡ torn ++ rest = cc in
      rw (first, second) (ap times_lines_of (sym (append_assoc bytes mark torn)) ∙ torn_after (bytes ++ mark) torn rest (ended-mark bytes) tails some ∙ lines-mark bytes)

module _ (line : TimesLine) (millis : line.millis < 2 ^ 64) (position : line.position < 2 ^ 64) (is_begun : Bool) (m items : List ℕ)
    (marked_by : m ≡ mark_of is_begun) (is : items ≡ m ++ (line_text line ++ 10 ∷ [])) where
  added : items ≡ added_text is_begun line
  added = is ∙ ap (λ bytes. bytes ++ (line_text line ++ 10 ∷ [])) marked_by

  pub adds_as : (bytes : List ℕ) → (is_begun ≡ true → IsEnded bytes) → (times_lines_of (bytes ++ items) ≡ times_lines_of bytes ++ line ∷ []) × IsEnded (bytes ++ items)
  adds_as bytes ended = subst (λ text. (times_lines_of (bytes ++ text) ≡ times_lines_of bytes ++ line ∷ []) × IsEnded (bytes ++ text)) (sym added) (adds line millis position is_begun bytes ended)

  pub torn_as : (bytes torn rest : List ℕ) → (is_begun ≡ true → IsEnded bytes) → items ≡ torn ++ rest → rest ≢ [] → times_lines_of (bytes ++ torn) ≡ times_lines_of bytes
  torn_as bytes torn rest ended split some = torn_adds_none line millis position is_begun bytes torn rest ended (sym added ∙ split) some

-- the parts of what is added, as they are written one after another
pub joined : (m a b : List ℕ) → ((((m ++ a) ++ 32 ∷ []) ++ b) ++ 10 ∷ []) ≡ m ++ ((a ++ 32 ∷ b) ++ 10 ∷ [])
joined m a b = simp append_assoc refl
