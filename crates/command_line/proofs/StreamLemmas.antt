-- Numbers of texts, one after the other.
use Rattle.std.proofs.Common.{◌≡◌, ◌∙◌, ◌<◌, ◌+◌, sym, ap, subst, arith, ℕ, ℤ, zero, suc, List, [], ◌∷◌, ◌++◌, Option, Some, None, Result, Ok, Err, Bor, get_or, length, map, take, option_map, codes, w32}
use Rattle.std.specs.Prelude.{unwrap_or}
use Rattle.std.specs.Str.Parse.{ParsesSigned}
use Rattle.clap.specs.Words.{Text, all_of, matched_of, raw_values, rows_of}
use Rattle.clap.specs.declared.parser.matches.Found.{Found}
use Rattle.clap.proofs.WalkLemmas.{raw_values-rows}
use Rattle.command_line.specs.CommandLine.{AreNumbers, AreStreams, IsStream}

abbrev pub text_of : Bor Text → Text
text_of text = text.now

-- one more text and its number
more : (texts : List (Bor Text)) (i : ℕ) (d : Bor Text) (zs : List ℤ) (z : ℤ) → i < length texts → AreNumbers (map text_of (take i texts)) zs
    → IsStream z (get_or texts i d).now → AreNumbers (map text_of (take (suc i) texts)) (zs ++ z ∷ [])
more [] i d zs z within so_far is = absurd (omega (arith, within))
more (t ∷ ts) zero d [] z within so_far is = (is, tt)
more (t ∷ ts) zero d (y ∷ ys) z within so_far is = absurd so_far
more (t ∷ ts) (suc i) d [] z within so_far is = absurd so_far
more (t ∷ ts) (suc i) d (y ∷ ys) z within so_far is = (so_far.0, more ts i d ys z (omega (arith, within)) so_far.1 is)

pub numbers_more : (texts : List (Bor Text)) (i : ℕ) (d : Bor Text) (zs : List ℤ) (z : ℤ) → i < length texts → AreNumbers (map text_of (take i texts)) zs
    → IsStream z (get_or texts i d).now → AreNumbers (map text_of (take (i + 1) texts)) (zs ++ z ∷ [])
numbers_more texts i d zs z within so_far is =
    let next : suc i ≡ i + 1 = omega arith in
    subst (λ n. AreNumbers (map text_of (take n texts)) (zs ++ z ∷ [])) next (more texts i d zs z within so_far is)

-- a text that is no number leaves none
pub no_numbers : (texts : List (Bor Text)) (i : ℕ) (d : Bor Text) → i < length texts → ((z : ℤ) → IsStream z (get_or texts i d).now → ⊥)
    → (zs : List ℤ) → AreNumbers (map text_of texts) zs → ⊥
no_numbers [] i d within none zs are = absurd (omega (arith, within))
no_numbers (t ∷ ts) i d within none [] are = absurd are
no_numbers (t ∷ ts) zero d within none (z ∷ zs) are = none z are.0
no_numbers (t ∷ ts) (suc i) d within none (z ∷ zs) are = no_numbers ts i d (omega (arith, within)) none zs are.1

-- a text that was read, and one that was not
pub read : {E : Type 0} (text : List ℕ) (r : Result ℤ E) (z : ℤ) → ParsesSigned w32 10 text r → r ≡ Ok z → IsStream z text
read {E} text r z parsed is =
    let given : ParsesSigned {E = E} w32 10 text (Ok z) = subst (ParsesSigned w32 10 text) is parsed in
    (given.0.0, given.0.1, given.1)

pub unread : {E : Type 0} (text : List ℕ) (r : Result ℤ E) (e : E) → ParsesSigned w32 10 text r → r ≡ Err e → (z : ℤ) → IsStream z text → ⊥
unread text r e parsed is z number = subst (ParsesSigned w32 10 text) is parsed (number.0, number.1)

-- the texts of `--record` that were given are those of the rows
module _ (f : Found) (got : Option (Bor (List (Bor Text)))) (is : option_map (λ (s : Bor (List (Bor Text))). map text_of s.now) got ≡ option_map raw_values (matched_of f (codes "record"))) where
  given_texts : (some : Option (Bor (List (Bor Text)))) → got ≡ some → unwrap_or (all_of (codes "record") (rows_of f)) [] ≡ unwrap_or (option_map (λ (s : Bor (List (Bor Text))). map text_of s.now) some) []
  given_texts some same = ap (λ (texts : Option (List Text)). unwrap_or texts []) (sym (raw_values-rows f (codes "record")) ∙ sym is ∙ ap (option_map (λ (s : Bor (List (Bor Text))). map text_of s.now)) same)

  pub streams_given : (texts : Bor (List (Bor Text))) → got ≡ Some texts → unwrap_or (all_of (codes "record") (rows_of f)) [] ≡ map text_of texts.now
  streams_given texts same = given_texts (Some texts) same

  pub no_streams : got ≡ None → (zs : List ℤ) → zs ≡ [] → AreStreams (rows_of f) zs
  no_streams same zs empty = subst (AreStreams (rows_of f)) (sym empty) (subst (λ (ts : List Text). AreNumbers ts []) (sym (given_texts None same)) tt)
