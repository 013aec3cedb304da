use Rattle.std.proofs.Common.{rules, FitsSigned, w32}
use Rattle.std.proofs.lemmas.Int.{to_z-of_z}
use Rattle.frame_core.proofs.block.start_of.Goals as goal

pub returns-clause-value : goal.returns-clause-value
returns-clause-value c =
    let term_fits : FitsSigned w32 c.args.frame.now.term_id = search rules in
    let offset_fits : FitsSigned w32 c.args.frame.now.term_offset = search rules in
    simp to_z-of_z at c.position.ensures.value
