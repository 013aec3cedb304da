use Rattle.std.proofs.Common.{List, subst, ap, sym}
use Rattle.std.specs.Map.{values_of}
use Rattle.archive_model.specs.declared.registration.Registration.{Registration}
use Rattle.archive_model.specs.Register.{id_of, changed_by}
use Rattle.archive_model.specs.Registered.{RegisterView}
use Rattle.archive_model.specs.Numbered.{IsIndexOf}
use Rattle.archive_model.proofs.RegisterLemmas.{keeps_changed, written_is_changed}
use Rattle.archive_model.proofs.register.Register.change.Goals as goal

pub invariant_of-self : goal.invariant_of-self
invariant_of-self c = keeps_changed _ _ c.in-Some.index c.args.change.now _ _ c.self.invariant c.index_mut-recording.ensures.value c.change.ensures

pub returns-clause-state : goal.returns-clause-state
returns-clause-state c =
    let es = c.self.inside.map.entries in
    let stands : IsIndexOf id_of c.args.id.now (values_of es) c.in-Some.index =
    subst (λ (v : RegisterView). IsIndexOf id_of c.args.id.now v.state.recordings c.in-Some.index) (sym c.self.view_is) c.in-Some.ensures in
    let same = written_is_changed c.args.id.now es c.in-Some.index (changed_by c.args.change.now) _ _ stands c.index_mut-recording.ensures.value c.change.ensures in
    rw (← c.self.view_is) (ap (λ (rs : List Registration). record { recordings = rs; next = c.self.inside.next }) same)
