-- What the register keeps beside its recordings.
use Rattle.std.specs.Prelude.{◌≡◌, ℕ, ℤ, pos, List, map}
use Rattle.std.specs.Map.{keys_of, values_of}
use Rattle.archive_model.specs.declared.registration.Registration.{Registration}
use Rattle.archive_model.specs.Register.{RegisterState, HasLayout, id_of}
use Rattle.archive_model.specs.Keyed.{Each, Rise}

-- the register's state, and how many more recordings it can take without memory
pub record RegisterView : Type 0 where
  pub state : RegisterState
  pub room : ℕ

-- Each recording stands under its id, the ids rise from 0 on and are below the next one, and terms and segments have
-- lengths.
pub record KeepsRegister (es : List (ℤ × Registration)) (next : ℤ) : Type 0 where
  pub keyed : keys_of es ≡ map id_of (values_of es)
  pub rising : Rise id_of (pos 0) (values_of es) next
  pub layouts : Each (λ r. HasLayout r.descriptor) (values_of es)
