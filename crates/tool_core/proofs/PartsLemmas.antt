-- How a line grows by the parts that a reader shows.
use Rattle.std.proofs.Common.{◌≡◌, ◌≢◌, ◌↔◌, ℕ, ◌+◌, ◌<◌, ◌≤◌, nat_le, Bool, true, false, not, if◌then◌else◌, IsTrue, MatchBool, List, [], ◌∷◌, ◌++◌, Option, Some, None, IfSome, length, take, slice_index, sym, subst, refl, ap, ◌∙◌, rules, append-nil, append_assoc, ne_eqb}
use Rattle.std.specs.Io.{StartsWith}
use Rattle.std.specs.Io.KnownBytes.{Keeps, Consumes, IsAtEnd}
use Rattle.std.specs.Io.BufRead.{DropsConsumable}
use Rattle.std.proofs.BufReadLemmas.{Consumes_shown}
use Rattle.std.proofs.KnownBytes.{Consumes-nil, Consumes-trans}
use Rattle.std.proofs.lemmas.Bool.{false≢true}
use Rattle.std.proofs.lemmas.List.{take_more}
use Rattle.std.proofs.lemmas.List.Elements.{All-append, All-head, All-tail}
use Rattle.tool_core.specs.InputLines.{lines_of, kept, NextLine, ReadsLine}
use Rattle.tool_core.specs.Parts.{HasNoEnd, LineGrows, MovesText}

-- what was shown first is consumed: a text, and what ends it
pub MovesText-shown : (a b c line_old line_new : Option (List ℕ)) (limit : Option ℕ) (shown : List ℕ) (n : ℕ) (text end : List ℕ)
    → n ≤ length shown → take n shown ≡ text ++ end → HasNoEnd text → LineGrows line_old line_new text
    → IfSome a (λ xs. StartsWith xs shown) → IfSome a (λ xs. length shown ≡ 0 → xs ≡ []) → Keeps a b
    → IfSome a (λ _. IfSome limit (λ k. length shown ≤ k)) → DropsConsumable b c limit n
    → MovesText a c line_old line_new end
MovesText-shown a b c line_old line_new limit shown n text end within is no_end grows front all kept fits drops = record {
  text = text;
  no_end = no_end;
  consumed = subst (Consumes a c) is (Consumes_shown a b c limit shown n within front all kept fits drops).0;
  grown = grows;
}

-- a text up to a line end, and the end
pub take_with_end : (shown : List ℕ) (at : ℕ) → at < length shown → slice_index shown at ≡ 10 → take (at + 1) shown ≡ take at shown ++ 10 ∷ []
take_with_end shown at within is = take_more shown at 0 within ∙ ap (λ b. take at shown ++ b ∷ []) is

-- what was read of a line whose end was not met
pub record HasRead (old now : Option (List ℕ)) (line : Option (List ℕ)) : Type 0 where
  pub text : List ℕ
  pub no_end : HasNoEnd text
  pub consumed : Consumes old now text
  pub is_kept : line ≡ kept text

pub HasRead-nil : (a line : Option (List ℕ)) → line ≡ Some [] → HasRead a a line
HasRead-nil a line is = record { text = []; no_end = search rules; consumed = Consumes-nil a; is_kept = is }

pub HasRead-more : (a b c line more : Option (List ℕ)) → HasRead a b line → MovesText b c line more [] → HasRead a c more
HasRead-more a b c line more seen moves = record {
  text = seen.text ++ moves.text;
  no_end = All-append (λ x. x ≢ 10) seen.text moves.text seen.no_end moves.no_end;
  consumed = Consumes-trans a b c seen.text moves.text seen.consumed (subst (Consumes b c) (append-nil moves.text) moves.consumed);
  is_kept = moves.grown seen.text seen.is_kept;
}

-- a line and its end are the first line
lines_of-end : (line rest : List ℕ) → HasNoEnd line → lines_of (line ++ 10 ∷ rest) ≡ line ∷ lines_of rest
lines_of-end [] rest no_end = refl
lines_of-end (b ∷ line) rest no_end =
    let other = ne_eqb b 10 (All-head (λ x. x ≢ 10) b line no_end) in
    rw (other, lines_of-end line rest (All-tail (λ x. x ≢ 10) b line no_end))

-- a line without its end is the only line
lines_of-last : (b : ℕ) (line : List ℕ) → HasNoEnd (b ∷ line) → lines_of (b ∷ line) ≡ (b ∷ line) ∷ []
lines_of-last b [] no_end = rw (ne_eqb b 10 (All-head (λ x. x ≢ 10) b [] no_end))
lines_of-last b (d ∷ line) no_end =
    let other = ne_eqb b 10 (All-head (λ x. x ≢ 10) b (d ∷ line) no_end) in
    rw (other, lines_of-last d line (All-tail (λ x. x ≢ 10) b (d ∷ line) no_end))

NextLine-ended : (a c : Option (List ℕ)) (line : List ℕ) → HasNoEnd line → Consumes a c (line ++ 10 ∷ []) → NextLine a c line
NextLine-ended None c line no_end h = tt
NextLine-ended (Some xs) None line no_end h = absurd h
NextLine-ended (Some xs) (Some ys) line no_end h = ap lines_of (h ∙ append_assoc line (10 ∷ []) ys) ∙ lines_of-end line ys no_end

-- the line's end was met
pub ReadsLine-ended : (a b c line whole : Option (List ℕ)) → HasRead a b line → MovesText b c line whole (10 ∷ []) → ReadsLine a c whole
ReadsLine-ended a b c line whole seen moves =
    let text = seen.text ++ moves.text in
    record {
      line = text;
      is_kept = moves.grown seen.text seen.is_kept;
      next = NextLine-ended a c text (All-append (λ x. x ≢ 10) seen.text moves.text seen.no_end moves.no_end)
          (subst (Consumes a c) (sym (append_assoc seen.text moves.text (10 ∷ []))) (Consumes-trans a b c seen.text _ seen.consumed moves.consumed));
    }

NextLine-last : (a b c : Option (List ℕ)) (d : ℕ) (line : List ℕ) → HasNoEnd (d ∷ line) → Consumes a b (d ∷ line) → IsAtEnd b → Keeps b c → NextLine a c (d ∷ line)
NextLine-last None b c d line no_end h end same = tt
NextLine-last (Some xs) None c d line no_end h end same = absurd h
NextLine-last (Some xs) (Some ys) None d line no_end h end same = absurd same
NextLine-last (Some xs) (Some ys) (Some zs) d line no_end h end same =
    ap lines_of (h ∙ ap (λ l. (d ∷ line) ++ l) end ∙ append-nil (d ∷ line)) ∙ lines_of-last d line no_end ∙ ap (λ l. (d ∷ line) ∷ lines_of l) (sym (same ∙ end))

IsAtEnd-before : (a b : Option (List ℕ)) → Consumes a b [] → IsAtEnd b → IsAtEnd a
IsAtEnd-before None b h end = tt
IsAtEnd-before (Some xs) None h end = absurd h
IsAtEnd-before (Some xs) (Some ys) h end = h ∙ end

kept-cons : (d : ℕ) (text : List ℕ) → kept (d ∷ text) ≡ Some [] → ⊥
kept-cons d text e = at (nat_le (length (d ∷ text)) 262144) e
  where
    at : (b : Bool) → (if b then Some (d ∷ text) else None) ≡ Some [] → ⊥
    at true e = cc
    at false e = cc

-- the input ended: behind a line, or with none
last_or_none : (a b c line : Option (List ℕ)) (text : List ℕ) → HasNoEnd text → Consumes a b text → line ≡ kept text → IsAtEnd b → Keeps b c
    → (empty : Bool) → IsTrue empty ↔ (line ≡ Some []) → MatchBool (not empty) (ReadsLine a c line) (IsAtEnd a)
last_or_none a b c line [] no_end h is end same true is_empty = IsAtEnd-before a b h end
last_or_none a b c line [] no_end h is end same false is_empty = absurd (false≢true (is_empty.1 is))
last_or_none a b c line (d ∷ text) no_end h is end same true is_empty = absurd (kept-cons d text (sym is ∙ is_empty.0 refl))
last_or_none a b c line (d ∷ text) no_end h is end same false is_empty = record {
  line = d ∷ text;
  is_kept = is;
  next = NextLine-last a b c d text no_end h end same;
}

pub ReadsLine-at_end : (a b c line last : Option (List ℕ)) → HasRead a b line → IsAtEnd b → Keeps b c → last ≡ line
    → (empty : Bool) → IsTrue empty ↔ (last ≡ Some []) → MatchBool (not empty) (ReadsLine a c last) (IsAtEnd a)
ReadsLine-at_end a b c line last seen end same is empty is_empty =
    last_or_none a b c last seen.text seen.no_end seen.consumed (is ∙ seen.is_kept) end same empty is_empty
