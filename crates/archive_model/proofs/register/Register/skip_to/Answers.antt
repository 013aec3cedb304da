use Rattle.std.proofs.Common.{rules, ◌≡◌, ◌≤ℤ◌, pos, FitsSigned, w64, ap, arith}
use Rattle.std.proofs.lemmas.Int.{to_z-of_z, ints}
use Rattle.std.specs.Map.{values_of}
use Rattle.archive_model.specs.Register.{id_of}
use Rattle.archive_model.specs.Registered.{RegisterView}
use Rattle.archive_model.proofs.CopyLemmas.{rise_more}
use Rattle.archive_model.proofs.register.Register.skip_to.Goals as goal

pub invariant_of-self : goal.invariant_of-self
invariant_of-self c =
    let fits : FitsSigned w64 c.args.next.now = search rules in
    let next : c.self.inside.next ≡ c.args.self.now.state.next = ap (λ (v : RegisterView). v.state.next) c.self.view_is in
    let further : c.self.inside.next ≤ℤ c.args.next.now = omega (arith, ints, next, c.requires) in
    rw (to_z-of_z w64 c.args.next.now fits) (record {
      keyed = c.self.invariant.keyed;
      rising = rise_more id_of (pos 0) c.self.inside.next c.args.next.now (values_of c.self.inside.map.entries) c.self.invariant.rising further;
      layouts = c.self.invariant.layouts;
    })
