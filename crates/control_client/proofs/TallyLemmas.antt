-- What is kept of replies after one byte more.
use Rattle.std.proofs.Common.{◌≡◌, ◌≢◌, ◌∙◌, ℕ, zero, suc, ◌<◌, ◌≤◌, max, Bool, true, false, if◌then◌else◌, List, [], ◌∷◌, ◌++◌, length, take, Option, Some, None, option_map, refl, subst, sym, ap, ap₂, arith, append_assoc, append-nil, codes}
use Rattle.std.specs.Prelude.{◌||◌, ◌&&◌, bytes_eq, nat_eq, not}
use Rattle.std.specs.List.{list_any, starts_with}
use Rattle.std.proofs.lemmas.List.{length-map}
use Rattle.std.proofs.lemmas.List.Folds.{list_any-append}
use Rattle.control_client.specs.declared.tally.Tally.{Tally}
use Rattle.control_client.specs.Lines.{texts}
use Rattle.control_client.specs.Replies.{answer_of, ends_reply, ends_with, goes_on, is_awaited, is_refusal, unanswered}
use Rattle.control_client.specs.Tally.{EndsLine, Follows, Grows, IsTally, front_of, telling_length}
use Rattle.control_client.proofs.LineLemmas.{splits_end, splits_more, whole_lines-splits}

-- ---- the front of a line shows what it is

-- the first bytes of the first bytes
take-front : (m n : ℕ) (line : List ℕ) → m ≤ n → take m (take n line) ≡ take m line
take-front zero n line within = refl
take-front (suc m) zero line within = absurd (omega arith)
take-front (suc m) (suc n) [] within = refl
take-front (suc m) (suc n) (b ∷ line) within = ap (λ bs. b ∷ bs) (take-front m n line (omega arith))

starts-front : (n : ℕ) (line word : List ℕ) → length word ≤ n → starts_with nat_eq (take n line) word ≡ starts_with nat_eq line word
starts-front n line word within = ap (starts_with_word) (take-front (length word) n line within)
  where
    starts_with_word : List ℕ → Bool
    starts_with_word front = bytes_eq word front

same-front : (n : ℕ) (line word : List ℕ) → length word < n → bytes_eq (take n line) word ≡ bytes_eq line word
same-front zero line word within = absurd (omega arith)
same-front (suc n) [] word within = refl
same-front (suc n) (b ∷ line) [] within = refl
same-front (suc n) (b ∷ line) (c ∷ word) within = ap (λ same. nat_eq b c && same) (same-front n line word (omega arith))

module _ (n : ℕ) (line : List ℕ) (within : 10 ≤ n) where
  goes_on-front : goes_on (take n line) ≡ goes_on line
  goes_on-front =
      ap₂ (λ p q. p || q) (starts-front n line (codes "recording ") within)
      (ap₂ (λ p q. p || q) (starts-front n line (codes "image ") (omega arith))
      (ap₂ (λ p q. p || q) (starts-front n line (codes "frame ") (omega arith))
      (ap₂ (λ p q. p || q) (starts-front n line (codes "open ") (omega arith)) (starts-front n line (codes "send ") (omega arith)))))

  pub is_refusal-front : is_refusal (take n line) ≡ is_refusal line
  is_refusal-front = starts-front n line (codes "error ") (omega arith)

  unanswered-front : (asked : List (List ℕ)) → unanswered asked (take n line ∷ []) ≡ unanswered asked (line ∷ [])
  unanswered-front [] = refl
  unanswered-front (first ∷ asked) = ap (λ more. if bytes_eq first (codes "merge-take") || not more then asked else first ∷ asked) goes_on-front

ten : (until : Option (List ℕ)) → 10 ≤ suc (telling_length until)
ten None = omega arith
ten (Some until) = omega arith

is_awaited-front : (until : Option (List ℕ)) (line : List ℕ) → is_awaited until (front_of until line ∷ []) ≡ is_awaited until (line ∷ [])
is_awaited-front None line = refl
is_awaited-front (Some until) line = same-front (suc (max 9 (length until))) line until (omega arith)

-- ---- one line more

either : (ends : Bool) (a b c d : List (List ℕ)) (line : List ℕ) → a ≡ unanswered b (line ∷ []) → c ≡ unanswered d (line ∷ [])
    → (if ends then a else c) ≡ unanswered (if ends then b else d) (line ∷ [])
either true a b c d line p q = p
either false a b c d line p q = q

unanswered-push : (asked lines : List (List ℕ)) (line : List ℕ) → unanswered asked (lines ++ line ∷ []) ≡ unanswered (unanswered asked lines) (line ∷ [])
unanswered-push asked [] line = refl
unanswered-push [] (other ∷ lines) line = refl
unanswered-push (first ∷ asked) (other ∷ lines) line =
    either (ends_reply first other) _ (unanswered asked lines) _ (unanswered (first ∷ asked) lines) line (unanswered-push asked lines line) (unanswered-push (first ∷ asked) lines line)

ends_with-push : (may_be : Bool) (until : List ℕ) (lines : List (List ℕ)) (line : List ℕ) → ends_with may_be until (lines ++ line ∷ []) ≡ bytes_eq line until
ends_with-push may_be until [] line = refl
ends_with-push may_be until (other ∷ lines) line = ends_with-push (bytes_eq other until) until lines line

is_awaited-push : (until : Option (List ℕ)) (lines : List (List ℕ)) (line : List ℕ) → is_awaited until (lines ++ line ∷ []) ≡ is_awaited until (line ∷ [])
is_awaited-push None lines line = refl
is_awaited-push (Some until) lines line = ends_with-push false until lines line

or_false : (b : Bool) → (b || false) ≡ b
or_false true = refl
or_false false = refl

is_refused-push : (lines : List (List ℕ)) (line : List ℕ) → list_any is_refusal (lines ++ line ∷ []) ≡ (list_any is_refusal lines || is_refusal line)
is_refused-push lines line = list_any-append is_refusal lines (line ∷ []) ∙ ap (λ last. list_any is_refusal lines || last) (or_false (is_refusal line))

-- a tally after the end of a line, whose front it had
pub line_ended : (old new : Tally) → new.until ≡ old.until → texts new.left.now ≡ unanswered (texts old.left.now) (old.front.items ∷ [])
    → new.is_refused ≡ (old.is_refused || is_refusal old.front.items) → new.is_awaited ≡ is_awaited (option_map (λ text. text.now) old.until) (old.front.items ∷ [])
    → new.front.items ≡ [] → EndsLine old new
line_ended old new same left refused awaited front asked until lines rest h =
    let size = suc (telling_length until) in
    record {
      awaits = ap (option_map (λ text. text.now)) same ∙ h.awaits;
      left = left ∙ ap₂ (λ xs line. unanswered xs (line ∷ [])) h.left h.front ∙ unanswered-front size rest (ten until) (unanswered asked lines) ∙ sym (unanswered-push asked lines rest);
      refused = refused ∙ ap₂ (λ p line. p || is_refusal line) h.refused h.front ∙ ap (λ last. list_any is_refusal lines || last) (is_refusal-front size rest (ten until)) ∙ sym (is_refused-push lines rest);
      awaited = awaited ∙ ap₂ (λ line front. is_awaited line (front ∷ [])) h.awaits h.front ∙ is_awaited-front until rest ∙ sym (is_awaited-push until lines rest);
      front = front;
    }

-- a byte that is no end, and one that is
pub byte_came : (old new : Tally) (byte : ℕ) → byte ≢ 10 → Grows old byte new → Follows old (byte ∷ []) new
byte_came old new byte other grows asked until before h = record {
  lines = h.lines;
  rest = h.rest ++ byte ∷ [];
  splits = splits_more before h.lines h.rest byte other h.splits;
  holds = grows asked until h.lines h.rest h.holds;
}

pub end_came : (old new : Tally) (byte : ℕ) → byte ≡ 10 → EndsLine old new → Follows old (byte ∷ []) new
end_came old new byte is ends asked until before h =
    subst (λ b. IsTally asked until (before ++ b ∷ []) new) (sym is) (record {
      lines = h.lines ++ h.rest ∷ [];
      rest = [];
      splits = splits_end before h.lines h.rest h.splits;
      holds = ends asked until h.lines h.rest h.holds;
    })

-- no byte came
pub follows_nil : (tally : Tally) → Follows tally [] tally
follows_nil tally asked until before h = subst (λ bytes. IsTally asked until bytes tally) (sym (append-nil before)) h

pub follows_all : (a b c : Tally) (first more : List ℕ) → Follows a first b → Follows b more c → Follows a (first ++ more) c
follows_all a b c first more f g asked until before h =
    subst (λ bytes. IsTally asked until bytes c) (append_assoc before first more) (g asked until (before ++ first) (f asked until before h))

-- what the bytes answer
pub answers : (asked : List (List ℕ)) (until : Option (List ℕ)) (came : List ℕ) (tally : Tally) → IsTally asked until came tally
    → record { left = length tally.left.now; is_refused = tally.is_refused; is_awaited = tally.is_awaited } ≡ answer_of asked until came
answers asked until came tally h =
    let lines = whole_lines-splits came h.lines h.rest h.splits in
    let left = sym (length-map tally.left.now (λ text. text.now)) ∙ ap length h.holds.left in
    rw (left, h.holds.refused, h.holds.awaited, lines) refl
