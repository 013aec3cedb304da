-- A loop that changes each element of a list, in order.
use Rattle.std.proofs.Common.{◌≡◌, ◌∙◌, ◌+◌, ◌<◌, ◌≤◌, ◌++◌, ℕ, List, append-nil, drop, drop_of_length-le, get_or, length, ap, take, take_all}
use Rattle.std.specs.Prelude.{map, set}
use Rattle.std.proofs.lemmas.List.{get_or_default}
use Rattle.std.proofs.lemmas.List.Edits.{map_over_more}

-- one more is changed
pub changed_more : {X : Type 0} (f : X → X) (xs ys : List X) (i : ℕ) (none new : X) → i < length xs → i < length ys → ys ≡ map f (take i xs) ++ drop i xs
    → new ≡ f (get_or ys i none) → set ys i new ≡ map f (take (i + 1) xs) ++ drop (i + 1) xs
changed_more f xs ys i none new within inside done made =
    ap (λ y. set ys i y) made ∙ map_over_more f xs ys i (get_or ys i none) within done (get_or_default ys i none (get_or ys i none) inside)

-- all are
pub all_changed : {X : Type 0} (f : X → X) (xs ys : List X) (i : ℕ) → ys ≡ map f (take i xs) ++ drop i xs → length xs ≤ i → ys ≡ map f xs
all_changed f xs ys i done past =
    done ∙ (ap (λ rest. map f (take i xs) ++ rest) (drop_of_length-le xs past) ∙ (append-nil (map f (take i xs)) ∙ ap (map f) (take_all i xs past)))
