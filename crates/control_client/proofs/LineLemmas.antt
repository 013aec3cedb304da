-- Lines that are sent, and lines that come.
use Rattle.std.proofs.Common.{◌≡◌, ◌∙◌, ℕ, ◌+◌, ◌<◌, ◌≤◌, Bor, List, [], ◌∷◌, ◌++◌, length, take, take_all, get_or, refl, subst, sym, ap, append_assoc, append-nil, ne_eqb}
use Rattle.std.specs.Prelude.{◌≢◌}
use Rattle.std.specs.List.{All}
use Rattle.std.proofs.lemmas.Grind.{flat_map-append}
use Rattle.std.proofs.lemmas.List.{get_or-map, length-map, map-append, take_more}
use Rattle.std.proofs.lemmas.List.Elements.{All-head, All-nil, All-push, All-tail}
use Rattle.control_client.specs.Lines.{HasNoEnd, ended, text_of, texts, whole_lines}
use Rattle.control_client.specs.Tally.{Splits}

module _ (Is : List ℕ → Type 0) where
  -- one of them is so
  pub one_line : (lines : List (Bor (List ℕ))) (i : ℕ) (d : Bor (List ℕ)) → i < length lines → All Is (texts lines) → Is (get_or lines i d).now
  one_line lines i d within all =
      subst Is (get_or-map (λ text. text.now) lines i d [] within) (all i [] (rw length-map within))

  -- one more of them was seen
  pub more_lines : (lines : List (Bor (List ℕ))) (i : ℕ) (d : Bor (List ℕ)) → i < length lines → All Is (texts (take i lines)) → Is (get_or lines i d).now → All Is (texts (take (i + 1) lines))
  more_lines lines i d within all one =
      subst (λ seen. All Is (texts seen)) (sym (take_more lines i d within))
      (subst (All Is) (sym (map-append (λ text. text.now) (take i lines) (get_or lines i d ∷ []))) (All-push Is (texts (take i lines)) (get_or lines i d).now all one))

  -- all of them were seen
  pub all_lines : (lines : List (Bor (List ℕ))) (i : ℕ) → length lines ≤ i → All Is (texts (take i lines)) → All Is (texts lines)
  all_lines lines i within = subst (λ seen. All Is (texts seen)) (take_all i lines within)

-- nothing came
pub splits_nil : Splits [] [] []
splits_nil = record { whole = refl; each = All-nil HasNoEnd; last = All-nil (λ b. b ≢ 10) }

-- a byte more that is no end
pub splits_more : (bytes : List ℕ) (lines : List (List ℕ)) (rest : List ℕ) (byte : ℕ) → byte ≢ 10 → Splits bytes lines rest → Splits (bytes ++ byte ∷ []) lines (rest ++ byte ∷ [])
splits_more bytes lines rest byte other h = record {
  whole = ap (λ bs. bs ++ byte ∷ []) h.whole ∙ append_assoc (text_of lines) rest (byte ∷ []);
  each = h.each;
  last = All-push (λ b. b ≢ 10) rest byte h.last other;
}

-- the text of one line more
text_of-push : (lines : List (List ℕ)) (line : List ℕ) → text_of (lines ++ line ∷ []) ≡ text_of lines ++ ended line
text_of-push lines line = flat_map-append ended lines (line ∷ []) ∙ ap (λ bs. text_of lines ++ bs) (append-nil (ended line))

-- an end
pub splits_end : (bytes : List ℕ) (lines : List (List ℕ)) (rest : List ℕ) → Splits bytes lines rest → Splits (bytes ++ 10 ∷ []) (lines ++ rest ∷ []) []
splits_end bytes lines rest h = record {
  whole = ap (λ bs. bs ++ 10 ∷ []) h.whole ∙ append_assoc (text_of lines) rest (10 ∷ []) ∙ sym (text_of-push lines rest) ∙ sym (append-nil (text_of (lines ++ rest ∷ [])));
  each = All-push HasNoEnd lines rest h.each h.last;
  last = All-nil (λ b. b ≢ 10);
}

-- a line with its end is the first line
whole_lines-ended : (line more : List ℕ) → HasNoEnd line → whole_lines (line ++ 10 ∷ more) ≡ line ∷ whole_lines more
whole_lines-ended [] more no_end = refl
whole_lines-ended (b ∷ line) more no_end =
    let other = ne_eqb b 10 (All-head (λ x. x ≢ 10) b line no_end) in
    rw (other, whole_lines-ended line more (All-tail (λ x. x ≢ 10) b line no_end))

-- without an end there is no line
whole_lines-rest : (rest : List ℕ) → HasNoEnd rest → whole_lines rest ≡ []
whole_lines-rest [] no_end = refl
whole_lines-rest (b ∷ rest) no_end =
    let other = ne_eqb b 10 (All-head (λ x. x ≢ 10) b rest no_end) in
    rw (other, whole_lines-rest rest (All-tail (λ x. x ≢ 10) b rest no_end))

whole_lines-text : (lines : List (List ℕ)) (rest : List ℕ) → All HasNoEnd lines → HasNoEnd rest → whole_lines (text_of lines ++ rest) ≡ lines
whole_lines-text [] rest each last = whole_lines-rest rest last
whole_lines-text (line ∷ lines) rest each last =
    ap whole_lines (append_assoc (ended line) (text_of lines) rest ∙ append_assoc line (10 ∷ []) (text_of lines ++ rest))
    ∙ whole_lines-ended line (text_of lines ++ rest) (All-head HasNoEnd line lines each)
    ∙ ap (λ ls. line ∷ ls) (whole_lines-text lines rest (All-tail HasNoEnd line lines each) last)

-- bytes have the lines that they were split into
pub whole_lines-splits : (bytes : List ℕ) (lines : List (List ℕ)) (rest : List ℕ) → Splits bytes lines rest → whole_lines bytes ≡ lines
whole_lines-splits bytes lines rest h = ap whole_lines h.whole ∙ whole_lines-text lines rest h.each h.last
