-- What is asked for.
use Rattle.std.proofs.Common.{◌≡◌, ℕ, List, [], ◌∷◌, Bool, true, false}
use Rattle.std.specs.Prelude.{nat_le, if◌then◌else◌}
use Rattle.std.specs.List.{list_any}
use Rattle.std.proofs.lemmas.Bool.{or_parts}
use Rattle.publication_core.specs.declared.datagram.Datagram.{Datagram}
use Rattle.publication_core.specs.Datagrams.{is_repeat_asked, unconsumed}

-- if none is asked for, none is after the first ones are dropped
pub asked_unconsumed : (consumed : ℕ) (ds : List Datagram) → list_any is_repeat_asked ds ≡ false → list_any is_repeat_asked (unconsumed consumed ds) ≡ false
asked_unconsumed consumed [] none = none
asked_unconsumed consumed (d ∷ ds) none = by_end (nat_le d.end consumed) (asked_unconsumed consumed ds (or_parts d.is_repeat_asked (list_any is_repeat_asked ds) none).1) where
  by_end : (b : Bool) → list_any is_repeat_asked (unconsumed consumed ds) ≡ false → list_any is_repeat_asked (if b then unconsumed consumed ds else d ∷ ds) ≡ false
  by_end true after = after
  by_end false after = none
