use Rattle.std.proofs.Common.{rules, FitsSigned, w32}
use Rattle.std.proofs.lemmas.Int.{to_z-of_z}
use Rattle.frame_core.proofs.SetupLemmas.{joins_where_it_may}
use Rattle.frame_core.proofs.setup.Setup.join_position.Goals as goal

pub returns-clause-value : goal.returns-clause-value
returns-clause-value c =
    let active : FitsSigned w32 c.args.self.now.active_term_id = search rules in
    let offset : FitsSigned w32 c.args.self.now.term_offset = search rules in
    joins_where_it_may
    c.args.self.now
    c.position.result
    (search rules)
    (search rules)
    c.if-not-is_aligned.ensures
    (rw c.geometry.ensures at (simp to_z-of_z at c.position.ensures.value))
