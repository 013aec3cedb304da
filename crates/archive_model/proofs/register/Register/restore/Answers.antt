use Rattle.std.proofs.Common.{◌≡◌, ◌<ℤ◌, true, rules, List, ℤ, FitsSigned, w64, ap, subst, sym, refl}
use Rattle.std.proofs.lemmas.Int.{to_z-of_z}
use Rattle.std.specs.Map.{values_of}
use Rattle.archive_model.specs.declared.registration.Registration.{Registration}
use Rattle.archive_model.specs.Register.{is_behind}
use Rattle.archive_model.specs.Registered.{RegisterView}
use Rattle.archive_model.proofs.RegisterLemmas.{entries_added, keeps_behind, keeps_restored, values_added}
use Rattle.archive_model.proofs.register.Register.restore.Goals as goal

-- the id that is written is the one that is meant
fits : (c : goal.Joined-branch-2) → FitsSigned w64 c.args.kept.descriptor.recording
fits c = search rules

behind : (c : goal.Joined-branch-2) → is_behind (values_of c.self.inside.map.entries) c.args.kept.descriptor.recording ≡ true
behind c =
    subst (λ (rs : List Registration). is_behind rs c.args.kept.descriptor.recording ≡ true) (sym (ap (λ (v : RegisterView). v.state.recordings) c.self.view_is)) c.requires.behind

pub invariant_of-self-2 : goal.invariant_of-self-2
invariant_of-self-2 c =
    let id = c.args.kept.descriptor.recording in
    let below : id <ℤ c.self.inside.next = subst (λ (n : ℤ). id <ℤ n) (sym (ap (λ (v : RegisterView). v.state.next) c.self.view_is)) c.requires.below in
    rw (c.in_ok-insert.ensures.entries, to_z-of_z w64 id (fits c), entries_added _ id c.args.kept (keeps_behind _ _ id c.self.invariant (behind c)))
    (keeps_restored _ c.self.inside.next id c.args.kept c.self.invariant (behind c) refl below c.requires.layout)

pub returns-clause-ok : goal.returns-clause-ok
returns-clause-ok c =
    let id = c.args.kept.descriptor.recording in
    rw (← c.self.view_is, c.in_ok-insert.ensures.entries, to_z-of_z w64 id (fits c), entries_added _ id c.args.kept (keeps_behind _ _ id c.self.invariant (behind c)))
    (ap (λ (rs : List Registration). record { recordings = rs; next = c.self.inside.next }) (values_added c.self.inside.map.entries id c.args.kept))
