use Rattle.std.proofs.Common.{rules, ◌≡◌, ℤ, ap, sym, subst, Some}
use Rattle.archive_model.specs.Keyed.{find}
use Rattle.archive_model.proofs.RegisterLemmas.{found_number}
use Rattle.control_core.specs.Seats.{DeskView}
use Rattle.control_core.proofs.desk.Desk.append.Goals as goal

pub settle_session-requires-clause-writer : goal.settle_session-requires-clause-writer
settle_session-requires-clause-writer c =
    let sessions : c.self.inside.sessions.values ≡ c.args.self.now.state.callers.sessions = ap (λ (v : DeskView). v.state.callers.sessions) c.self.view_is in
    let found : find (λ s. s.recording) c.args.recording.now c.self.inside.sessions.values ≡ Some c.in-Some.session = search rules in
    let same : c.in-Some.session.recording ≡ c.args.recording.now = found_number (λ s. s.recording) c.args.recording.now c.self.inside.sessions.values c.in-Some.session found in
    rw (← sessions) (subst (λ (n : ℤ). find (λ s. s.recording) n c.self.inside.sessions.values ≡ Some c.in-Some.session) (sym same) found)
