use Rattle.std.proofs.Common.{◌≡◌, ◌∙◌, inl, inr, List, [], ◌∷◌, ap, refl, sym}
use Rattle.std.specs.Prelude.{◌⊎◌}
use Rattle.std.specs.List.{zip}
use Rattle.std.proofs.lemmas.Slice.Zip.{either_empty_from_Zip}
use Rattle.server_state.specs.Noting.{after_settlings}
use Rattle.server_state.proofs.noting.note_group.Goals as goal

-- beside an empty list there are no pairs
no_pairs : {A B : Type 0} (xs : List A) (ys : List B) → (xs ≡ []) ⊎ (ys ≡ []) → zip xs ys ≡ []
no_pairs [] ys is = refl
no_pairs (x ∷ xs) [] is = refl
no_pairs (x ∷ xs) (y ∷ ys) is = by is
  where
    by : (x ∷ xs ≡ []) ⊎ (y ∷ ys ≡ []) → zip (x ∷ xs) (y ∷ ys) ≡ []
    by (inl gone) = absurd cc
    by (inr gone) = absurd cc

pub returns : goal.returns
returns c =
    let ends = either_empty_from_Zip c.loop-session.session-iterator c.next.new.self c.next.result c.in-None.is c.next.ensures.steps in
    ap (λ settlings. after_settlings settlings c.loop-session.pairs) (sym (no_pairs c.loop-session.session-iterator.a.rest.now c.loop-session.session-iterator.b.rest.now ends)) ∙ c.loop-session.invariant
