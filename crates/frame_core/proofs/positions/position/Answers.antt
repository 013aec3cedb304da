use Rattle.std.proofs.Common.{rules, ◌≡◌, ◌∙◌, sym, subst, ap, ℕ, ℤ, pos, ◌<◌, ◌^◌, Some, None, w32, w64, FitsSigned, to_z, of_z, arith}
use Rattle.std.proofs.lemmas.Int.{ints, to_z_pos, to_z-of_z}
use Rattle.std.specs.Prelude.{Option}
use Rattle.frame_core.specs.declared.geometry.Geometry.{Geometry}
use Rattle.frame_core.specs.Position.{HasPosition, position_of}
use Rattle.frame_core.proofs.PositionLemmas.{given, not_given}
use Rattle.frame_core.proofs.positions.position.Goals as goal

-- what stands of numbers that were passed on stands of the numbers
here : (g : Geometry) (term offset : ℤ) (found : Option ℕ) → FitsSigned w32 term → FitsSigned w32 offset
    → found ≡ position_of g (to_z w32 (of_z w32 term)) (to_z w32 (of_z w32 offset)) → position_of g term offset ≡ found
here g term offset found term_fits offset_fits is =
    sym (is ∙ ap (λ (t : ℤ). position_of g t (to_z w32 (of_z w32 offset))) (to_z-of_z w32 term term_fits) ∙ ap (position_of g term) (to_z-of_z w32 offset offset_fits))

pub returns-in-None-clause-value : goal.returns-in-None-clause-value
returns-in-None-clause-value c =
    let term : FitsSigned w32 c.args.term_id = search rules in
    let offset : FitsSigned w32 c.args.offset = search rules in
    not_given c.args.geometry.now c.args.term_id c.args.offset (here c.args.geometry.now c.args.term_id c.args.offset None term offset c.in-None.ensures.value)

pub returns-in-Some : goal.returns-in-Some
returns-in-Some c =
    let term : FitsSigned w32 c.args.term_id = search rules in
    let offset : FitsSigned w32 c.args.offset = search rules in
    let small : c.in-Some.position < 2 ^ 62 = search (rules, c.in-Some.ensures.small) in
    let is : pos c.in-Some.position ≡ to_z w64 c.in-Some.position = sym (to_z_pos w64 c.in-Some.position (omega arith)) in
    record {
      value = subst (HasPosition c.args.geometry.now c.args.term_id c.args.offset) is
          (given c.args.geometry.now c.args.term_id c.args.offset c.in-Some.position (here c.args.geometry.now c.args.term_id c.args.offset (Some c.in-Some.position) term offset c.in-Some.ensures.value));
      small = rw (sym is) (omega (arith, ints), omega (arith, ints, small));
    }
