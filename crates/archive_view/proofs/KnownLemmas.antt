-- What a desk knows of its recordings.
use Rattle.std.proofs.Common.{◌≡◌, subst, ℤ, pos, ◌≤ℤ◌, Bool, true, false, List, [], ◌∷◌, Some, cond, arith}
use Rattle.std.proofs.lemmas.Int.{ints}
use Rattle.std.specs.Ordering.{int_eq}
use Rattle.archive_model.specs.declared.registration.Registration.{Registration}
use Rattle.archive_model.specs.Keyed.{Each, find}
use Rattle.archive_model.specs.Register.{RegisterState, id_of, registration_in}
use Rattle.control_core.specs.Callers.{CallersState}
use Rattle.control_core.specs.Orderly.{IsLaid, KeepsDesk}

-- a recording that is found is laid
found_among : (id : ℤ) (rs : List Registration) (r : Registration) → Each IsLaid rs → find id_of id rs ≡ Some r → IsLaid r
found_among id [] r all found = absurd cc
found_among id (h ∷ rs) r all found = by (int_eq id (id_of h)) found (found_among id rs r all.1)
  where
    by : (b : Bool) → cond b (Some h) (find id_of id rs) ≡ Some r → (find id_of id rs ≡ Some r → IsLaid r) → IsLaid r
    by true is later = let same : h ≡ r = cc in subst IsLaid same all.0
    by false is later = later is

pub found_laid : (register : RegisterState) (callers : CallersState) (id : ℤ) (r : Registration) → KeepsDesk register callers → registration_in register id ≡ Some r → IsLaid r
found_laid register callers id r keeps found = found_among id register.recordings r keeps.orderly.register found

-- its positions are from 0 on
pub laid_low : (r : Registration) → IsLaid r
    → (pos 0 ≤ℤ r.descriptor.start_position) × (pos 0 ≤ℤ r.recorded)
laid_low r laid =
    let layout = laid.laid_out.layout in
    let low : pos 0 ≤ℤ r.descriptor.start_position = omega (arith, ints, layout.start_is) in
    (low, omega (arith, ints, low, laid.from_start))
