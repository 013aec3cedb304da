use Rattle.std.proofs.Common.{◌≡◌, ◌+ℤ◌, pos, rules, List, FitsSigned, w64, ap, ◌∙◌, sym}
use Rattle.std.proofs.lemmas.Int.{to_z-of_z}
use Rattle.archive_model.specs.declared.registration.Registration.{Registration}
use Rattle.archive_model.specs.Registered.{RegisterView}
use Rattle.archive_model.proofs.RegisterLemmas.{entries_added, keeps_added, values_added}
use Rattle.archive_model.proofs.register.Register.add.Goals as goal

pub overflow_add-self : goal.overflow_add-self
overflow_add-self c =
    let fits : FitsSigned w64 c.self.inside.next = search rules in
    let next : c.self.inside.next ≡ c.args.self.now.state.next = ap (λ (v : RegisterView). v.state.next) c.self.view_is in
    let more = c.requires.more in
    rw (to_z-of_z w64 c.self.inside.next fits) (search rules)

-- the numbers that are written are those that are meant
fits : (c : goal.After-self-2-1) → FitsSigned w64 c.self.inside.next
fits c = search rules

fits_more : (c : goal.After-self-2-1) → FitsSigned w64 (c.self.inside.next +ℤ pos 1)
fits_more c =
    let next : c.self.inside.next ≡ c.args.self.now.state.next = ap (λ (v : RegisterView). v.state.next) c.self.view_is in
    let more = c.requires.more in
    let low = fits c in search rules

pub invariant_of-self-2 : goal.invariant_of-self-2
invariant_of-self-2 c =
    let next : c.self.inside.next ≡ c.args.self.now.state.next = ap (λ (v : RegisterView). v.state.next) c.self.view_is in
    rw (c.in_ok-insert.ensures.entries, to_z-of_z w64 c.self.inside.next (fits c), to_z-of_z w64 (c.self.inside.next +ℤ pos 1) (fits_more c), entries_added _ _ c.args.begun c.self.invariant)
    (keeps_added _ _ c.args.begun c.self.invariant (c.requires.id ∙ sym next) c.requires.layout)

pub returns-clause-ok : goal.returns-clause-ok
returns-clause-ok c =
    let es = c.self.inside.map.entries in
    rw (← c.self.view_is, c.in_ok-insert.ensures.entries, to_z-of_z w64 c.self.inside.next (fits c), to_z-of_z w64 (c.self.inside.next +ℤ pos 1) (fits_more c), entries_added _ _ c.args.begun c.self.invariant)
    (ap (λ (rs : List Registration). record { recordings = rs; next = c.self.inside.next +ℤ pos 1 }) (values_added es c.self.inside.next c.args.begun))
