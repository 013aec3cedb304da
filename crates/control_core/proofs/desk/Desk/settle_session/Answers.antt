use Rattle.std.proofs.Common.{rules, ◌≡◌, ap, Some, FitsSigned, w64}
use Rattle.std.proofs.lemmas.Int.{to_z-of_z}
use Rattle.archive_model.specs.Keyed.{find}
use Rattle.control_core.specs.Seats.{DeskView}
use Rattle.control_core.proofs.KeptLemmas.{kept_appended}
use Rattle.control_core.proofs.desk.Desk.settle_session.Goals as goal

pub invariant_of-self : goal.invariant_of-self
invariant_of-self c =
    let wrote : c.args.session.now.written ≡ Some c.in-Some.written = search rules in
    let sessions : c.self.inside.sessions.values ≡ c.args.self.now.state.callers.sessions = ap (λ (v : DeskView). v.state.callers.sessions) c.self.view_is in
    let found : find (λ s. s.recording) c.args.session.now.recording c.self.inside.sessions.values ≡ Some c.args.session.now = rw sessions c.requires.writer in
    let fits : FitsSigned w64 c.in-Some.written.last = search rules in
    rw (c.change.ensures.state, c.clear_written.ensures.values, c.clear_written.ensures.next, to_z-of_z w64 c.in-Some.written.last fits) (kept_appended _ _ _ _ _ found wrote c.self.invariant)
