-- Which lines a port of consumers answers is known by the first word, and by ten bytes without a blank.
use Rattle.std.proofs.Common.{◌≡◌, ◌∙◌, ◌+◌, ◌<◌, ◌≤◌, ◌++◌, ◌==◌, ◌⊎◌, inl, inr, ℕ, Bool, true, false, not, List, Option, Some, None, ap, arith, codes, eq-eqb, length, ne_eqb, refl, sym, take}
use Rattle.std.specs.Prelude.{MatchOption}
use Rattle.std.specs.List.{position_or_len}
use Rattle.std.specs.Str.{bytes_eq}
use Rattle.std.proofs.Math.Seq.{take-length}
use Rattle.std.proofs.lemmas.List.{take-append-le}
use Rattle.std.proofs.lemmas.List.Folds.{length-prefix_len, prefix_len-append}
use Rattle.std.proofs.lemmas.List.Sums.{position_or_len_is, prefix_len-le-length}
use Rattle.std.proofs.lemmas.Slice.Eq.{bytes_eq-Decides}
use Rattle.memchr.specs.Find.{IsFirstByte, is_byte}
use Rattle.server.specs.ConsumerLines.{IsWordDecided, IsWordKnown, first_word, is_consumer_word, is_for_consumers}

abbrev pub blank : ℕ → Bool
blank b = b == 32

not_true : (b : Bool) → (b ≡ true → ⊥) → b ≡ false
not_true false other = refl
not_true true other = absurd (other refl)

-- ---- the first word

-- the first blank ends it
pub word_before : (line : List ℕ) (r : Option ℕ) → IsFirstByte (is_byte 32) line r → MatchOption r (first_word line ≡ line) (λ at. first_word line ≡ take at line)
word_before line None none =
    let no_blank : position_or_len blank line ≡ length line = position_or_len_is blank line (length line) 0 (omega arith) (λ k below. not_true _ (none k (omega arith) below)) (λ below. absurd (omega (arith, below))) in
    ap (λ k. take k line) no_blank ∙ take-length line
word_before line (Some at) first =
    ap (λ k. take k line) (position_or_len_is blank line at 0 (omega (arith, (first.0).high)) (λ k below. not_true _ ((first.0).before k (omega arith) below)) (λ within. first.1))

pub word_ends : (line : List ℕ) (at : ℕ) → IsFirstByte (is_byte 32) line (Some at) → IsWordKnown line
word_ends line at first =
    let is : position_or_len blank line ≡ at = position_or_len_is blank line at 0 (omega (arith, (first.0).high)) (λ k below. not_true _ ((first.0).before k (omega arith) below)) (λ within. first.1) in
    inl (omega (arith, is, (first.0).high))

-- where it ends, it ends whatever follows
word_stays : (front rest : List ℕ) → position_or_len blank front < length front → first_word (front ++ rest) ≡ first_word front
word_stays front rest within =
    let same : position_or_len blank (front ++ rest) ≡ position_or_len blank front = prefix_len-append (λ b. not (blank b)) front rest ∙ rw (ne_eqb (position_or_len blank front) (length front) (λ e. omega (arith, e, within))) refl in
    ap (λ k. take k (front ++ rest)) same ∙ take-append-le (position_or_len blank front) front rest (omega (arith, within))

-- where it does not end, it has all bytes, and perhaps more
word_grows : (front rest : List ℕ) → position_or_len blank front ≡ length front → length front ≤ length (first_word (front ++ rest))
word_grows front rest whole =
    let more : position_or_len blank (front ++ rest) ≡ length front + position_or_len blank rest = prefix_len-append (λ b. not (blank b)) front rest ∙ rw (eq-eqb _ _ whole) refl in
    let size : length (first_word (front ++ rest)) ≡ position_or_len blank (front ++ rest) = length-prefix_len (λ b. not (blank b)) (front ++ rest) in
    omega (arith, more, size)

-- ---- words that are answered

differs : (word other : List ℕ) → length other < length word → bytes_eq word other ≡ false
differs word other shorter = by (bytes_eq word other) refl
  where
    by : (b : Bool) → bytes_eq word other ≡ b → bytes_eq word other ≡ false
    by false is = is
    by true is = absurd (omega (arith, ap (λ (w : List ℕ). length w) ((bytes_eq-Decides word other).0 is), shorter))

-- one of more than nine bytes is not
too_long : (word : List ℕ) → 9 < length word → is_consumer_word word ≡ false
too_long word long =
    rw (
      differs word (codes "list") (omega (arith, long)),
      differs word (codes "find") (omega (arith, long)),
      differs word (codes "positions") (omega (arith, long)),
      differs word (codes "source") (omega (arith, long)),
      differs word (codes "images") (omega (arith, long)),
      differs word (codes "follow") (omega (arith, long)),
      differs word (codes "quit") (omega (arith, long)),
    ) refl

-- what is known of bytes stays, whatever follows: the first word has ended, or it is too long
stays : (front rest : List ℕ) → IsWordKnown front → is_for_consumers (front ++ rest) ≡ is_for_consumers front
stays front rest (inl within) = ap is_consumer_word (word_stays front rest within)
stays front rest (inr long) = by (split (position_or_len blank front) (length front) (prefix_len-le-length (λ b. not (blank b)) front))
  where
    split : (k n : ℕ) → k ≤ n → (k < n) ⊎ (k ≡ n)
    split k n below = grind (arith, below)

    by : (position_or_len blank front < length front) ⊎ (position_or_len blank front ≡ length front) → is_for_consumers (front ++ rest) ≡ is_for_consumers front
    by (inl within) = ap is_consumer_word (word_stays front rest within)
    by (inr whole) =
        let all : length (first_word front) ≡ position_or_len blank front = length-prefix_len (λ b. not (blank b)) front in
        too_long (first_word (front ++ rest)) (omega (arith, long, word_grows front rest whole)) ∙ sym (too_long (first_word front) (omega (arith, long, all, whole)))

pub decides : (is_whole : Bool) (front : List ℕ) (answered : Bool) → (is_whole ≡ true) ⊎ IsWordKnown front → answered ≡ is_for_consumers front → IsWordDecided is_whole front (Some answered)
decides true front answered known is = sym is
decides false front answered (inl whole) is = absurd (cc whole)
decides false front answered (inr known) is = λ rest. stays front rest known ∙ sym is
