-- Searches by halves, and of what is read at once.
use Rattle.std.proofs.Common.{◌≡◌, ◌⊎◌, ◌∙◌, ℕ, ◌+◌, ◌-◌, ◌<◌, ◌≤◌, List, [], ◌∷◌, ◌++◌, length, take, drop, Option, Some, None, inl, inr, refl, sym, subst, ap, ap₂, arith, append_assoc, append-nil, length-append}
use Rattle.std.specs.Prelude.{IfSome, option_map, slice_index}
use Rattle.std.proofs.lemmas.List.{drop_at, drop_more, length-drop, length-take-le, take-append-drop, take-append-le, take_at}
use Rattle.recorded_times.specs.declared.found.Found.{Found}
use Rattle.recorded_times.specs.declared.line.TimesLine.{TimesLine}
use Rattle.recorded_times.specs.declared.reading.FirstLine.{FirstLine}
use Rattle.recorded_times.specs.declared.searching.Span.{Span}
use Rattle.recorded_times.specs.Due.{IsEnded}
use Rattle.recorded_times.specs.Found.{IsAfter, IsAtOrBefore, IsFirstTaken, IsFoundAt, IsLast, found_with}
use Rattle.recorded_times.specs.Search.{IsFirstLine, IsSpan}
use Rattle.recorded_times.specs.Times.{HasNoEnd, times_line_of, times_lines_of}
use Rattle.recorded_times.proofs.TextLemmas.{lines-append, lines-first, lines-rest, lines-skip}

-- ---- line ends

ended_tail : (b : ℕ) (bytes : List ℕ) → IsEnded (b ∷ bytes) → IsEnded bytes
ended_tail b bytes (inl none) = absurd (cc none)
ended_tail b bytes (inr ([], is)) = inl (cc)
ended_tail b bytes (inr (x ∷ front, is)) = inr (front, cc)

-- the back of ended bytes is ended
pub ended_back : (front back : List ℕ) → IsEnded (front ++ back) → IsEnded back
ended_back [] back ended = ended
ended_back (b ∷ front) back ended = ended_back front back (ended_tail b (front ++ back) ended)

-- what stands after a line end is ended, or that end is the last
ended_past : (front back : List ℕ) → IsEnded back → IsEnded (front ++ 10 ∷ back)
ended_past front back (inl none) = inr (front, ap (λ b. front ++ 10 ∷ b) none)
ended_past front back (inr (texts, is)) = inr (front ++ 10 ∷ texts, ap (λ b. front ++ 10 ∷ b) is ∙ sym (append_assoc front (10 ∷ texts) (10 ∷ [])))

ended_both : (front back : List ℕ) → IsEnded front → IsEnded back → IsEnded (front ++ back)
ended_both front back ended (inl none) = subst IsEnded (sym (ap (λ b. front ++ b) none ∙ append-nil front)) ended
ended_both front back ended (inr (texts, is)) = inr (front ++ texts, ap (λ b. front ++ b) is ∙ sym (append_assoc front texts (10 ∷ [])))

-- bytes at a line end: what is before it, and after it
pub parted_at : (bytes : List ℕ) (size : ℕ) → size < length bytes → slice_index bytes size ≡ 10 → bytes ≡ take size bytes ++ 10 ∷ drop (size + 1) bytes
parted_at bytes size within is =
    sym (take-append-drop size bytes) ∙ ap (λ back. take size bytes ++ back) (drop_more bytes size 0 within ∙ ap (λ b. b ∷ drop (size + 1) bytes) is)

-- ---- the first line

-- what is in front has no line
pub record Skipped (bytes : List ℕ) (start : ℕ) : Type 0 where
  pub front : List ℕ
  pub split : bytes ≡ front ++ drop start bytes
  pub at : start ≡ length front
  pub ended : IsEnded front
  pub none : times_lines_of front ≡ []

pub skipped_nil : (bytes : List ℕ) → Skipped bytes 0
skipped_nil bytes = record { front = []; split = refl; at = refl; ended = inl refl; none = refl }

module _ (bytes : List ℕ) (start size : ℕ) (h : Skipped bytes start) (within : size < length (drop start bytes)) (is : slice_index (drop start bytes) size ≡ 10)
    (no_end : HasNoEnd (take size (drop start bytes))) where
  abbrev pub text : List ℕ
  text = take size (drop start bytes)

  abbrev pub after : List ℕ
  after = drop (size + 1) (drop start bytes)

  whole : bytes ≡ h.front ++ (text ++ 10 ∷ after)
  whole = h.split ∙ ap (λ rest. h.front ++ rest) (parted_at (drop start bytes) size within is)

  size_is : length text ≡ size
  size_is = length-take-le size (drop start bytes) (omega (arith, within))

  pub first_found : (line : TimesLine) (first : FirstLine) → times_line_of text ≡ Some line → first ≡ record { start = start; line = line; end = start + size + 1 } → IsFirstLine bytes first
  first_found line first found same = rw same (record {
    skipped = h.front;
    text = text;
    rest = after;
    split = whole;
    start = h.at;
    end = omega (arith, h.at, size_is);
    ended = h.ended;
    none = h.none;
    no_end = no_end;
    line = found;
  })

  front_size : length (h.front ++ (text ++ 10 ∷ [])) ≡ start + size + 1
  front_size = omega (arith, length-append h.front (text ++ 10 ∷ []), length-append text (10 ∷ []), h.at, size_is)

  regrouped : bytes ≡ (h.front ++ (text ++ 10 ∷ [])) ++ after
  regrouped = whole ∙ simp append_assoc refl

  pub skipped_more : times_line_of text ≡ None → Skipped bytes (start + size + 1)
  skipped_more none = record {
    front = h.front ++ (text ++ 10 ∷ []);
    split = regrouped ∙ ap (λ back. (h.front ++ (text ++ 10 ∷ [])) ++ back) (sym (ap (drop (start + size + 1)) regrouped ∙ drop_at (h.front ++ (text ++ 10 ∷ [])) after (start + size + 1) front_size));
    at = sym front_size;
    ended = inr (h.front ++ text, sym (append_assoc h.front text (10 ∷ [])));
    none = lines-append h.front (text ++ 10 ∷ []) h.ended ∙ ap₂ (λ a b. a ++ b) h.none (lines-skip text [] no_end none);
  }

pub none_found : (bytes : List ℕ) (start : ℕ) → Skipped bytes start → HasNoEnd (drop start bytes) → times_lines_of bytes ≡ []
none_found bytes start h no_end =
    ap times_lines_of h.split ∙ lines-append h.front (drop start bytes) h.ended ∙ ap₂ (λ a b. a ++ b) h.none (lines-rest (drop start bytes) no_end)

-- bytes have their first line first
pub first_of : (bytes : List ℕ) (first : FirstLine) (h : IsFirstLine bytes first) → times_lines_of bytes ≡ first.line ∷ times_lines_of h.rest
first_of bytes first h =
    ap times_lines_of h.split ∙ lines-append h.skipped (h.text ++ 10 ∷ h.rest) h.ended ∙ ap₂ (λ a b. a ++ b) h.none (lines-first h.text h.rest first.line h.no_end h.line)

-- ---- a search of what was read

-- the last line up to a place, at or before the time
pub record Passed (bytes : List ℕ) (time : ℕ) (was : Option TimesLine) (start : ℕ) (before : Option TimesLine) : Type 0 where
  pub front : List ℕ
  pub split : bytes ≡ front ++ drop start bytes
  pub at : start ≡ length front
  pub ended : IsEnded front
  pub last : (earlier : List TimesLine) → IsLast earlier was → IsLast (earlier ++ times_lines_of front) before
  pub early : IfSome was (IsAtOrBefore time) → IfSome before (IsAtOrBefore time)

last_nil : (earlier : List TimesLine) (was : Option TimesLine) → IsLast earlier was → IsLast (earlier ++ []) was
last_nil earlier was = subst (λ (ls : List TimesLine). IsLast ls was) (sym (append-nil earlier))

pub passed_nil : (bytes : List ℕ) (time : ℕ) (was : Option TimesLine) → Passed bytes time was 0 was
passed_nil bytes time was = record { front = []; split = refl; at = refl; ended = inl refl; last = λ earlier is. last_nil earlier was is; early = λ e. e }

module _ (bytes : List ℕ) (time : ℕ) (was before : Option TimesLine) (start : ℕ) (h : Passed bytes time was start before) (first : FirstLine) (f : IsFirstLine (drop start bytes) first) where
  abbrev passed_front : List ℕ
  passed_front = h.front ++ (f.skipped ++ (f.text ++ 10 ∷ []))

  passed_split : bytes ≡ passed_front ++ f.rest
  passed_split = h.split ∙ ap (λ rest. h.front ++ rest) f.split ∙ simp append_assoc refl

  passed_size : length passed_front ≡ start + first.end
  passed_size = omega (arith, length-append h.front (f.skipped ++ (f.text ++ 10 ∷ [])), length-append f.skipped (f.text ++ 10 ∷ []), length-append f.text (10 ∷ []), h.at, f.end)

  passed_lines : times_lines_of passed_front ≡ times_lines_of h.front ++ first.line ∷ []
  passed_lines =
      lines-append h.front (f.skipped ++ (f.text ++ 10 ∷ [])) h.ended
      ∙ ap (λ ls. times_lines_of h.front ++ ls) (lines-append f.skipped (f.text ++ 10 ∷ []) f.ended ∙ ap₂ (λ a b. a ++ b) f.none (lines-first f.text [] first.line f.no_end f.line))

  passed_rest : drop (start + first.end) bytes ≡ f.rest
  passed_rest = ap (drop (start + first.end)) passed_split ∙ drop_at passed_front f.rest (start + first.end) passed_size

  pub passed_more : first.line.millis ≤ time → Passed bytes time was (start + first.end) (Some first.line)
  passed_more early = record {
    front = passed_front;
    split = passed_split ∙ ap (λ back. passed_front ++ back) (sym passed_rest);
    at = sym passed_size;
    ended = ended_both h.front (f.skipped ++ (f.text ++ 10 ∷ [])) h.ended (ended_both f.skipped (f.text ++ 10 ∷ []) f.ended (inr (f.text, refl)));
    last = λ earlier is. (earlier ++ times_lines_of h.front, ap (λ ls. earlier ++ ls) passed_lines ∙ sym (append_assoc earlier (times_lines_of h.front) (first.line ∷ [])));
    early = λ e. early;
  }

-- what is found between a last line and a first one
found_between : (time : ℕ) (earlier later : List TimesLine) (before after : Option TimesLine) → IsLast earlier before → IsFirstTaken later after
    → IfSome before (IsAtOrBefore time) → IfSome after (IsAfter time) → IsFoundAt time (earlier ++ later) (option_map (λ line. found_with line after) before)
found_between time earlier later None after last first early late = subst (λ (ls : List TimesLine). IsFoundAt time (ls ++ later) None) (sym last) (after, first, late)
found_between time earlier later (Some line) after (front, is) first early late = record {
  earlier = front;
  line = line;
  later = later;
  next = after;
  split = ap (λ ls. ls ++ later) is ∙ append_assoc front (line ∷ []) later;
  first = first;
  found_is = refl;
  early = early;
  late = late;
}

-- a line that comes after the time ends the search
pub found_before : (bytes : List ℕ) (time : ℕ) (was before : Option TimesLine) (start : ℕ) (h : Passed bytes time was start before) (first : FirstLine) → IsFirstLine (drop start bytes) first
    → time < first.line.millis → (earlier later : List TimesLine) → IsLast earlier was → IfSome was (IsAtOrBefore time)
    → IsFoundAt time (earlier ++ (times_lines_of bytes ++ later)) (option_map (λ line. found_with line (Some first.line)) before)
found_before bytes time was before start h first f late earlier later last early =
    let all : times_lines_of bytes ≡ times_lines_of h.front ++ (first.line ∷ times_lines_of f.rest) = ap times_lines_of h.split ∙ lines-append h.front (drop start bytes) h.ended ∙ ap (λ ls. times_lines_of h.front ++ ls) (first_of (drop start bytes) first f) in
    let same : earlier ++ (times_lines_of bytes ++ later) ≡ (earlier ++ times_lines_of h.front) ++ (first.line ∷ (times_lines_of f.rest ++ later)) =
    ap (λ ls. earlier ++ (ls ++ later)) all ∙ ap (λ ls. earlier ++ ls) (append_assoc (times_lines_of h.front) (first.line ∷ times_lines_of f.rest) later) ∙ sym (append_assoc earlier (times_lines_of h.front) (first.line ∷ (times_lines_of f.rest ++ later))) in
    subst (λ (ls : List TimesLine). IsFoundAt time ls (option_map (λ line. found_with line (Some first.line)) before)) (sym same)
    (found_between time (earlier ++ times_lines_of h.front) (first.line ∷ (times_lines_of f.rest ++ later)) before (Some first.line) (h.last earlier last) (times_lines_of f.rest ++ later, refl) (h.early early) late)

-- no further line came
pub found_at_end : (bytes : List ℕ) (time : ℕ) (was before after : Option TimesLine) (start : ℕ) (h : Passed bytes time was start before) → times_lines_of (drop start bytes) ≡ []
    → (earlier later : List TimesLine) → IsLast earlier was → IsFirstTaken later after → IfSome was (IsAtOrBefore time) → IfSome after (IsAfter time)
    → IsFoundAt time (earlier ++ (times_lines_of bytes ++ later)) (option_map (λ line. found_with line after) before)
found_at_end bytes time was before after start h none earlier later last first early late =
    let all : times_lines_of bytes ≡ times_lines_of h.front = ap times_lines_of h.split ∙ lines-append h.front (drop start bytes) h.ended ∙ ap (λ ls. times_lines_of h.front ++ ls) none ∙ append-nil (times_lines_of h.front) in
    let same : earlier ++ (times_lines_of bytes ++ later) ≡ (earlier ++ times_lines_of h.front) ++ later = ap (λ ls. earlier ++ (ls ++ later)) all ∙ sym (append_assoc earlier (times_lines_of h.front) later) in
    subst (λ (ls : List TimesLine). IsFoundAt time ls (option_map (λ line. found_with line after) before)) (sym same)
    (found_between time (earlier ++ times_lines_of h.front) later before after (h.last earlier last) first (h.early early) late)

-- ---- halves

pub span_begins : (known : List ℕ) (time size : ℕ) (span : Span) → size ≡ length known → span ≡ record { low = 0; before = None; high = size; after = None } → IsSpan known time span
span_begins known time size span is same = rw same (record {
  front = [];
  middle = known;
  back = [];
  split = sym (append-nil known);
  low = refl;
  high = omega (arith, is);
  begins = inl refl;
  ends = inr refl;
  last = refl;
  first = refl;
  early = tt;
  late = tt;
})

-- what is between `low` and `high`
pub middle_is : (known : List ℕ) (time : ℕ) (span : Span) (h : IsSpan known time span) → take (span.high - span.low) (drop span.low known) ≡ h.middle
middle_is known time span h =
    ap (λ bs. take (span.high - span.low) (drop span.low bs)) h.split
    ∙ ap (take (span.high - span.low)) (drop_at h.front (h.middle ++ h.back) span.low (sym h.low))
    ∙ take_at h.middle h.back (span.high - span.low) (omega (arith, h.low, h.high))

-- the lines of all, by parts
pub lines_by_parts : (known : List ℕ) (time : ℕ) (span : Span) (h : IsSpan known time span) → times_lines_of known ≡ times_lines_of h.front ++ (times_lines_of h.middle ++ times_lines_of h.back)
lines_by_parts known time span h = ap times_lines_of h.split ∙ lines-append h.front (h.middle ++ h.back) h.begins ∙ ap (λ ls. times_lines_of h.front ++ ls) (by h.ends)
  where
    by : IsEnded h.middle ⊎ (h.back ≡ []) → times_lines_of (h.middle ++ h.back) ≡ times_lines_of h.middle ++ times_lines_of h.back
    by (inl ended) = lines-append h.middle h.back ended
    by (inr none) = rw none (ap times_lines_of (append-nil h.middle) ∙ sym (append-nil (times_lines_of h.middle)))

-- what is found in the middle is found in all
pub found_in_all : (known : List ℕ) (time : ℕ) (span : Span) (bytes : List ℕ) (found : Option Found) (h : IsSpan known time span) → bytes ≡ take (span.high - span.low) (drop span.low known)
    → ((earlier later : List TimesLine) → IsLast earlier span.before → IsFirstTaken later span.after → IfSome span.before (IsAtOrBefore time) → IfSome span.after (IsAfter time)
    → IsFoundAt time (earlier ++ (times_lines_of bytes ++ later)) found)
    → IsFoundAt time (times_lines_of known) found
found_in_all known time span bytes found h is finds =
    let same : bytes ≡ h.middle = is ∙ middle_is known time span h in
    subst (λ (ls : List TimesLine). IsFoundAt time ls found) (ap (λ bs. times_lines_of h.front ++ (times_lines_of bs ++ times_lines_of h.back)) same ∙ sym (lines_by_parts known time span h))
    (finds (times_lines_of h.front) (times_lines_of h.back) h.last h.first h.early h.late)

-- what was read from the middle on, with a line end in it, and a line after that
module _ (known : List ℕ) (time : ℕ) (span : Span) (h : IsSpan known time span) (at room size : ℕ) (window : List ℕ) (first : FirstLine)
    (above : span.low ≤ at) (below : at + room ≤ span.high) (window_is : window ≡ take room (drop at known))
    (within : size < length window) (is : slice_index window size ≡ 10) (f : IsFirstLine (drop (size + 1) window) first) where
  abbrev offset : ℕ
  offset = at - span.low

  abbrev near : List ℕ
  near = take offset h.middle

  abbrev far : List ℕ
  far = drop offset h.middle

  middle_size : length h.middle ≡ span.high - span.low
  middle_size = omega (arith, h.low, h.high)

  near_size : length near ≡ offset
  near_size = length-take-le offset h.middle (omega (arith, middle_size, above, below))

  middle_parts : h.middle ≡ near ++ far
  middle_parts = sym (take-append-drop offset h.middle)

  far_size : length far ≡ span.high - at
  far_size = omega (arith, ap length middle_parts, length-append near far, near_size, middle_size, above, below)

  from_at : drop at known ≡ far ++ h.back
  from_at =
      ap (drop at) (h.split ∙ ap (λ m. h.front ++ (m ++ h.back)) middle_parts ∙ simp append_assoc refl)
      ∙ drop_at (h.front ++ near) (far ++ h.back) at (omega (arith, length-append h.front near, near_size, h.low, above))

  window_in : window ≡ take room far
  window_in = window_is ∙ ap (take room) from_at ∙ take-append-le room far h.back (omega (arith, far_size, above, below))

  abbrev past : List ℕ
  past = drop room far

  abbrev x : List ℕ
  x = take size window

  x_size : length x ≡ size
  x_size = length-take-le size window (omega (arith, within))

  far_parts : far ≡ (x ++ 10 ∷ (f.skipped ++ (f.text ++ 10 ∷ f.rest))) ++ past
  far_parts =
      sym (take-append-drop room far)
      ∙ ap (λ w. w ++ past) (sym window_in ∙ parted_at window size within is ∙ ap (λ y. x ++ 10 ∷ y) f.split)

  -- up to the line, and from it on
  abbrev up : List ℕ
  up = h.front ++ (near ++ (x ++ 10 ∷ f.skipped))

  up_ended : IsEnded up
  up_ended = ended_both h.front (near ++ (x ++ 10 ∷ f.skipped)) h.begins (subst IsEnded (append_assoc near x (10 ∷ f.skipped)) (ended_past (near ++ x) f.skipped f.ended))

  low_parts : known ≡ (up ++ (f.text ++ 10 ∷ [])) ++ ((f.rest ++ past) ++ h.back)
  low_parts = h.split ∙ ap (λ m. h.front ++ (m ++ h.back)) (middle_parts ∙ ap (λ w. near ++ w) far_parts) ∙ simp append_assoc refl

  low_size : length (up ++ (f.text ++ 10 ∷ [])) ≡ at + (size + 1 + first.end)
  low_size =
      omega (
        arith,
        length-append up (f.text ++ 10 ∷ []),
        length-append f.text (10 ∷ []),
        length-append h.front (near ++ (x ++ 10 ∷ f.skipped)),
        length-append near (x ++ 10 ∷ f.skipped),
        length-append x (10 ∷ f.skipped),
        near_size,
        x_size,
        h.low,
        f.end,
        above,
      )

  far_from : h.middle ≡ (near ++ (x ++ 10 ∷ (f.skipped ++ (f.text ++ 10 ∷ [])))) ++ (f.rest ++ past)
  far_from = middle_parts ∙ ap (λ w. near ++ w) far_parts ∙ simp append_assoc refl

  rest_size : length (f.rest ++ past) ≡ span.high - (at + (size + 1 + first.end))
  rest_size =
      omega (
        arith,
        ap length far_from,
        length-append (near ++ (x ++ 10 ∷ (f.skipped ++ (f.text ++ 10 ∷ [])))) (f.rest ++ past),
        length-append near (x ++ 10 ∷ (f.skipped ++ (f.text ++ 10 ∷ []))),
        length-append x (10 ∷ (f.skipped ++ (f.text ++ 10 ∷ []))),
        length-append f.skipped (f.text ++ 10 ∷ []),
        length-append f.text (10 ∷ []),
        near_size,
        x_size,
        middle_size,
        f.end,
        above,
        below,
      )

  pub fits : at + (size + 1 + first.end) ≤ span.high
  fits =
      omega (
        arith,
        ap length far_from,
        length-append (near ++ (x ++ 10 ∷ (f.skipped ++ (f.text ++ 10 ∷ [])))) (f.rest ++ past),
        length-append near (x ++ 10 ∷ (f.skipped ++ (f.text ++ 10 ∷ []))),
        length-append x (10 ∷ (f.skipped ++ (f.text ++ 10 ∷ []))),
        length-append f.skipped (f.text ++ 10 ∷ []),
        length-append f.text (10 ∷ []),
        near_size,
        x_size,
        middle_size,
        f.end,
        above,
        below,
      )

  rest_ends : IsEnded h.middle ⊎ (h.back ≡ []) → IsEnded (f.rest ++ past) ⊎ (h.back ≡ [])
  rest_ends (inl ended) = inl (ended_back (near ++ (x ++ 10 ∷ (f.skipped ++ (f.text ++ 10 ∷ [])))) (f.rest ++ past) (subst IsEnded far_from ended))
  rest_ends (inr none) = inr none

  pub span_low : (new : Span) → new ≡ record span { low = at + (size + 1 + first.end); before = Some first.line } → first.line.millis ≤ time → IsSpan known time new
  span_low new same early = rw same (record {
    front = up ++ (f.text ++ 10 ∷ []);
    middle = f.rest ++ past;
    back = h.back;
    split = low_parts;
    low = sym low_size;
    high = omega (arith, low_size, rest_size, fits);
    begins = ended_both up (f.text ++ 10 ∷ []) up_ended (inr (f.text, refl));
    ends = rest_ends h.ends;
    last = (times_lines_of up, lines-append up (f.text ++ 10 ∷ []) up_ended ∙ ap (λ ls. times_lines_of up ++ ls) (lines-first f.text [] first.line f.no_end f.line));
    first = h.first;
    early = early;
    late = h.late;
  })

  abbrev mid : List ℕ
  mid = near ++ (x ++ 10 ∷ f.skipped)

  mid_size : length mid ≡ (at - span.low) + (size + 1 + first.start)
  mid_size = omega (arith, length-append near (x ++ 10 ∷ f.skipped), length-append x (10 ∷ f.skipped), near_size, x_size, f.start)

  pub span_high : (new : Span) → new ≡ record span { high = at + (size + 1 + first.start); after = Some first.line } → time < first.line.millis → IsSpan known time new
  span_high new same late = rw same (record {
    front = h.front;
    middle = mid;
    back = f.text ++ 10 ∷ (f.rest ++ (past ++ h.back));
    split = h.split ∙ ap (λ m. h.front ++ (m ++ h.back)) (middle_parts ∙ ap (λ w. near ++ w) far_parts) ∙ simp append_assoc refl;
    low = h.low;
    high = omega (arith, mid_size, h.low, above);
    begins = h.begins;
    ends = inl (subst IsEnded (append_assoc near x (10 ∷ f.skipped)) (ended_past (near ++ x) f.skipped f.ended));
    last = h.last;
    first = (times_lines_of (f.rest ++ (past ++ h.back)), lines-first f.text (f.rest ++ (past ++ h.back)) first.line f.no_end f.line);
    early = h.early;
    late = late;
  })

-- ---- bytes that may not be known

-- what holds of known bytes, if any are
pub if_known : (bytes : Option (List ℕ)) (P Q : List ℕ → Type 0) → ((known : List ℕ) → P known → Q known) → IfSome bytes P → IfSome bytes Q
if_known None P Q from h = tt
if_known (Some known) P Q from h = from known h

-- ---- what is left of bytes

pub more_within : (bytes : List ℕ) (start size : ℕ) → start ≤ length bytes → size < length (drop start bytes) → start + size + 1 ≤ length bytes
more_within bytes start size low within = omega (arith, length-drop start bytes, low, within)

pub first_within : (bytes : List ℕ) (start : ℕ) (first : FirstLine) → start ≤ length bytes → IsFirstLine (drop start bytes) first → start + first.end ≤ length bytes
first_within bytes start first low f =
    omega (arith, length-drop start bytes, low, ap length f.split, length-append f.skipped (f.text ++ 10 ∷ f.rest), length-append f.text (10 ∷ f.rest), f.end)

pub high_within : (known : List ℕ) (time : ℕ) (span : Span) → IsSpan known time span → span.high ≤ length known
high_within known time span h = omega (arith, ap length h.split, length-append h.front (h.middle ++ h.back), length-append h.middle h.back, h.high)

-- a file of which nothing is known yet
pub begins_known : (bytes : Option (List ℕ)) (time size : ℕ) → IfSome bytes (λ known. size ≡ length known)
    → IfSome bytes (λ known. IsSpan known time (record { low = 0; before = None; high = size; after = None }))
begins_known None time size h = tt
begins_known (Some known) time size h = span_begins known time size _ h refl

-- what is found in the middle of what is known
pub found_known : (bytes : Option (List ℕ)) (time : ℕ) (span : Span) (read : List ℕ) (found : Option Found) → IfSome bytes (λ known. IsSpan known time span)
    → IfSome bytes (λ known. span.high ≤ length known → read ≡ take (span.high - span.low) (drop span.low known))
    → ((earlier later : List TimesLine) → IsLast earlier span.before → IsFirstTaken later span.after → IfSome span.before (IsAtOrBefore time) → IfSome span.after (IsAfter time)
    → IsFoundAt time (earlier ++ (times_lines_of read ++ later)) found)
    → IfSome bytes (λ known. IsFoundAt time (times_lines_of known) found)
found_known None time span read found h is finds = tt
found_known (Some known) time span read found h is finds = found_in_all known time span read found h (is (high_within known time span h)) finds
