use Rattle.std.proofs.Common.{rules, ◌∙◌, refl, w64, w32, FitsSigned}
use Rattle.std.specs.Prelude.{unsigned_abs}
use Rattle.std.proofs.lemmas.Int.{to_z-of_z}
use Rattle.image_core.proofs.SetupLemmas.{joined, joined_terms}
use Rattle.image_core.proofs.image.Image.from_setup.Goals as goal

pub begun-requires-clause-terms : goal.begun-requires-clause-terms
begun-requires-clause-terms c = rw c.geometry.ensures (joined_terms c.args.setup.now c.in_ok-position.position (search rules))

pub begun-requires-clause-limit : goal.begun-requires-clause-limit
begun-requires-clause-limit c =
    let fits : FitsSigned w64 c.in_ok-position.position = search rules in
    simp (to_z-of_z, c.geometry.ensures) (joined c.args.setup.now c.in_ok-position.position (search rules) (search rules)).below

pub returns-clause-begun : goal.returns-clause-begun
returns-clause-begun c =
    let fits : FitsSigned w64 c.in_ok-position.position = search rules in
    let session : FitsSigned w32 c.args.setup.now.session_id = search rules in
    let stream : FitsSigned w32 c.args.setup.now.stream_id = search rules in
    record {
      position = unsigned_abs c.in_ok-position.position;
      joins = (joined c.args.setup.now c.in_ok-position.position (search rules) (search rules)).joins;
      begins = c.begun.ensures ∙ simp (to_z-of_z, c.geometry.ensures) refl;
    }
