-- Commands whose archive is not opened.
use Rattle.std.proofs.Common.{◌≡◌, inl, refl, subst, sym, ℕ, ℤ, List}
use Rattle.std.specs.Prelude.{IfErr, Option, Result, Err}
use Rattle.disk_core.specs.Life.{Life}
use Rattle.archive_commands.specs.declared.commands.CommandFault.{CommandFault}
use Rattle.archive_commands.specs.declared.commands.Stop.{Stop}
use Rattle.archive_commands.specs.declared.commands.Stop.TheVariants.{Refused, Cut}
use Rattle.archive_commands.specs.Commands.{FailsToList, FailsToVerify, IsUnopenedBy}

module _ {D X : Type 0} (life : D → Life) (old : Life) (contents : Option (List ℕ)) (result : Result X (CommandFault D)) (fault : CommandFault D) (is : result ≡ Err fault) where
  pub unlisted : IsUnopenedBy old (life fault.disk) fault.why → IfErr result (λ f. FailsToList old (life f.disk) f.why contents contents)
  unlisted none = subst (λ (r : Result X (CommandFault D)). IfErr r (λ f. FailsToList old (life f.disk) f.why contents contents)) (sym is) (by fault.why none)
    where
      by : (why : Stop) → IsUnopenedBy old (life fault.disk) why → FailsToList old (life fault.disk) why contents contents
      by (Refused refusal) none = (none, refl)
      by (Cut end) none = absurd none

  pub unverified : (asked : Option ℤ) → IsUnopenedBy old (life fault.disk) fault.why → IfErr result (λ f. FailsToVerify asked old (life f.disk) f.why contents contents)
  unverified asked none = subst (λ (r : Result X (CommandFault D)). IfErr r (λ f. FailsToVerify asked old (life f.disk) f.why contents contents)) (sym is) (by fault.why none)
    where
      by : (why : Stop) → IsUnopenedBy old (life fault.disk) why → FailsToVerify asked old (life fault.disk) why contents contents
      by (Refused refusal) none = (inl none, refl)
      by (Cut end) none = absurd none
