-- A fragment stands somewhere in a text.
use Rattle.std.proofs.Common.{◌≡◌, ◌↔◌, ◌⊎◌, inl, inr, ℕ, Bool, true, false, ◌||◌, List, [], ◌∷◌, ◌++◌, length, take, drop, refl, sym, ◌∙◌, ap}
use Rattle.std.specs.Str.{bytes_eq}
use Rattle.std.specs.Str.Iter.{HasSubslice}
use Rattle.std.proofs.lemmas.List.{append-nil, take-append-drop}
use Rattle.std.proofs.lemmas.Slice.Eq.{bytes_eq-Decides}
use Rattle.std.proofs.Math.Seq.{take-append_seam}
use Rattle.control_core.specs.Decisions.{has_fragment}

or_cases : (a b : Bool) → (a || b) ≡ true → (a ≡ true) ⊎ (b ≡ true)
or_cases true b h = inl refl
or_cases false b h = inr h

or_right : (a b : Bool) → b ≡ true → (a || b) ≡ true
or_right true b h = refl
or_right false b h = h

has : (text fragment : List ℕ) → has_fragment text fragment ≡ true → HasSubslice text fragment
unfolding has_fragment
has [] fragment h = ([], [], (bytes_eq-Decides [] fragment).0 h ∙ sym (append-nil fragment))
has (b ∷ text) fragment h =
    elim (or_cases (bytes_eq (take (length fragment) (b ∷ text)) fragment) (has_fragment text fragment) h) [
      | inl here ↦
          let same = (bytes_eq-Decides (take (length fragment) (b ∷ text)) fragment).0 here in
          ([], drop (length fragment) (b ∷ text), sym (take-append-drop (length fragment) (b ∷ text)) ∙ ap (λ f. f ++ drop (length fragment) (b ∷ text)) same)
      | inr later ↦ let more = has text fragment later in (b ∷ more.0, more.1, ap (λ t. b ∷ t) more.2)
    ]

no_text : (fragment rest : List ℕ) → [] ≡ fragment ++ rest → [] ≡ fragment
no_text [] rest e = refl
no_text (b ∷ fragment) rest e = absurd (cc e)

in_front : (text fragment rest : List ℕ) → text ≡ fragment ++ rest → has_fragment text fragment ≡ true
unfolding has_fragment
in_front [] fragment rest e = (bytes_eq-Decides [] fragment).1 (no_text fragment rest e)
in_front (b ∷ text) fragment rest e =
    let same : take (length fragment) (b ∷ text) ≡ fragment = ap (take (length fragment)) e ∙ take-append_seam fragment rest in
    rw ((bytes_eq-Decides (take (length fragment) (b ∷ text)) fragment).1 same) refl

is : (front text fragment rest : List ℕ) → text ≡ front ++ (fragment ++ rest) → has_fragment text fragment ≡ true
unfolding has_fragment
is [] text fragment rest e = in_front text fragment rest e
is (b ∷ front) [] fragment rest e = absurd (cc e)
is (b ∷ front) (c ∷ text) fragment rest e = or_right _ _ (is front text fragment rest (ap (drop 1) e))

pub fragment_stands : (text fragment : List ℕ) → (has_fragment text fragment ≡ true) ↔ HasSubslice text fragment
fragment_stands text fragment = (has text fragment, λ h. is h.0 text fragment h.1 h.2)

-- tests that tell the same are the same
pub same_test : {P : Type 0} (a b : Bool) → (a ≡ true) ↔ P → (b ≡ true) ↔ P → a ≡ b
same_test true b h k = sym (k.1 (h.0 refl))
same_test false true h k = h.1 (k.0 refl)
same_test false false h k = refl
