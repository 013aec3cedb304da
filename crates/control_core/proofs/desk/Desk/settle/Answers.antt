use Rattle.std.proofs.Common.{rules, ◌≡◌, ap, Some, FitsSigned, w64}
use Rattle.std.proofs.lemmas.Int.{to_z-of_z}
use Rattle.archive_model.specs.Keyed.{find}
use Rattle.control_core.specs.Callers.{session_number}
use Rattle.control_core.specs.Seats.{DeskView}
use Rattle.control_core.proofs.DeskLemmas.{settled_found}
use Rattle.control_core.proofs.KeptLemmas.{kept_settled}
use Rattle.control_core.proofs.desk.Desk.settle.Goals as goal

pub returns : goal.returns
returns c =
    let wrote : c.args.found.now.session.written ≡ Some c.in-Some.written = search rules in
    let is = settled_found c.args.self.now.state c.args.session.now c.args.found.now.session c.in-Some.written c.requires.found.session wrote in
    search rules

pub invariant_of-self : goal.invariant_of-self
invariant_of-self c =
    let wrote : c.args.found.now.session.written ≡ Some c.in-Some.written = search rules in
    let sessions : c.self.inside.sessions.values ≡ c.args.self.now.state.callers.sessions = ap (λ (v : DeskView). v.state.callers.sessions) c.self.view_is in
    let found : find session_number c.args.session.now c.self.inside.sessions.values ≡ Some c.args.found.now.session = rw sessions c.requires.found.session in
    let fits : FitsSigned w64 c.in-Some.written.last = search rules in
    rw (c.change.ensures.state, c.set_written.ensures.values, c.set_written.ensures.next, to_z-of_z w64 c.in-Some.written.last fits) (kept_settled _ _ _ _ _ found wrote c.self.invariant)
