-- Positions of offsets in terms.
use Rattle.std.proofs.Common.{◌≡◌, ◌∙◌, sym, ap, refl, ℕ, ℤ, pos, Option, None, Some}
use Rattle.std.specs.Prelude.{unsigned_abs}
use Rattle.frame_core.specs.declared.geometry.Geometry.{Geometry}
use Rattle.frame_core.specs.Position.{HasPosition, position_of}
use Rattle.frame_core.proofs.PositionLemmas.{given, is_given}

none_by : (g : Geometry) (term offset : ℤ) (found : Option ℕ) → position_of g term offset ≡ found → ((p : ℤ) → HasPosition g term offset p → ⊥) → None ≡ found
none_by g term offset None is never = refl
none_by g term offset (Some n) is never = absurd (never (pos n) (given g term offset n is))

-- an offset without a position has none by the function
pub no_position : (g : Geometry) (term offset : ℤ) → ((p : ℤ) → HasPosition g term offset p → ⊥) → None ≡ position_of g term offset
no_position g term offset never = none_by g term offset (position_of g term offset) refl never

-- a position is the function's
pub its_position : (g : Geometry) (term offset p : ℤ) → HasPosition g term offset p → Some (unsigned_abs p) ≡ position_of g term offset
its_position g term offset p has =
    let found = is_given g term offset p has in ap (λ (q : ℤ). Some (unsigned_abs q)) found.2 ∙ sym found.1
