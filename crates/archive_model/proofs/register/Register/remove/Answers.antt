use Rattle.std.proofs.Common.{List, subst, ap, sym}
use Rattle.std.specs.Map.{values_of}
use Rattle.archive_model.specs.declared.registration.Registration.{Registration}
use Rattle.archive_model.specs.Register.{id_of}
use Rattle.archive_model.specs.Registered.{RegisterView}
use Rattle.archive_model.specs.Numbered.{IsIndexOf}
use Rattle.archive_model.proofs.RegisterLemmas.{keeps_removed, removed_there, without_none}
use Rattle.archive_model.proofs.register.Register.remove.Goals as goal

pub returns-in_default : goal.returns-in_default
returns-in_default c = ap (λ (rs : List Registration). record { recordings = rs; next = c.args.self.now.state.next }) (sym (without_none id_of c.args.id.now c.args.self.now.state.recordings c.in_default.ensures.found))

pub invariant_of-self : goal.invariant_of-self
invariant_of-self c = rw c.shift_remove_index.ensures.entries (keeps_removed _ _ c.in-Some.index c.self.invariant)

pub returns : goal.returns
returns c =
    let es = c.self.inside.map.entries in
    let stands : IsIndexOf id_of c.args.id.now (values_of es) c.in-Some.index =
    subst (λ (v : RegisterView). IsIndexOf id_of c.args.id.now v.state.recordings c.in-Some.index) (sym c.self.view_is) c.in-Some.ensures in
    rw (← c.self.view_is, c.shift_remove_index.ensures.entries)
    (ap (λ (rs : List Registration). record { recordings = rs; next = c.self.inside.next }) (removed_there c.args.id.now c.self.inside.next es c.in-Some.index c.self.invariant stands))
