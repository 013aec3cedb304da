use Rattle.std.proofs.Common.{rules, FitsSigned, w32, w64}
use Rattle.std.proofs.lemmas.Int.{to_z-of_z}
use Rattle.publication_core.proofs.PositionLemmas.{its_position, no_position}
use Rattle.publication_core.proofs.flow.position_at.Goals as goal

pub returns-in_err-position-clause-position : goal.returns-in_err-position-clause-position
returns-in_err-position-clause-position c =
    let term_fits : FitsSigned w32 c.args.term_id = c.ranges.term_id in
    let offset_fits : FitsSigned w32 c.args.offset = c.ranges.offset in
    rw c.from_residual.ensures (no_position c.args.geometry.now c.args.term_id c.args.offset (simp to_z-of_z at c.in_err-position.ensures.value))

pub returns-clause-position : goal.returns-clause-position
returns-clause-position c =
    let term_fits : FitsSigned w32 c.args.term_id = c.ranges.term_id in
    let offset_fits : FitsSigned w32 c.args.offset = c.ranges.offset in
    let fits : FitsSigned w64 c.in_ok-position.position = search rules in
    rw (to_z-of_z w64 c.in_ok-position.position fits)
    (its_position c.args.geometry.now c.args.term_id c.args.offset c.in_ok-position.position (simp to_z-of_z at c.in_ok-position.ensures.value))
