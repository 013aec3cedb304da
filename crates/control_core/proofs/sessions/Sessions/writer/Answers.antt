-- The session that is found is the first of its recording.
use Rattle.std.proofs.Common.{◌≡◌, pos, Some, None, refl, sym, ap, ◌∙◌, rules}
use Rattle.std.proofs.lemmas.Option.{slice_get-get_or}
use Rattle.archive_model.specs.Keyed.{find}
use Rattle.archive_model.proofs.NumberedLemmas.{found_index, none_there, skips_index}
use Rattle.control_core.specs.declared.callers.RecorderSession.{RecorderSession}
use Rattle.control_core.specs.Seats.{SessionsView}
use Rattle.control_core.proofs.SeatLemmas.{get_or_same}
use Rattle.control_core.proofs.sessions.Sessions.writer.Goals as goal

pub returns-then-session-recording : goal.returns-then-session-recording
returns-then-session-recording c =
    let xs = c.deref-session-items.result.now in
    let is : xs ≡ c.args.self.now.values = c.deref-session-items.ensures.value ∙ ap (λ (v : SessionsView). v.values) c.self.view_is in
    let within = c.loop-session-test.true in
    let at = get_or_same xs c.loop-session.session-index (record { number = pos 0; recording = pos 0; written = None }) _ within refl in
    let stands = found_index (λ (s : RecorderSession). s.recording) c.args.recording.now xs _ _ within at (search rules) c.loop-session.invariant in
    ap Some at ∙ sym (slice_get-get_or xs c.loop-session.session-index _ within) ∙ stands.at ∙ sym stands.found ∙ ap (find (λ (s : RecorderSession). s.recording) c.args.recording.now) is

pub loop-session-preserved : goal.loop-session-preserved
loop-session-preserved c =
    let xs = c.deref-session-items.result.now in
    let within = c.loop-session-test.true in
    let at = get_or_same xs c.loop-session.session-index (record { number = pos 0; recording = pos 0; written = None }) _ within refl in
    skips_index (λ (s : RecorderSession). s.recording) c.args.recording.now xs _ _ within at (search rules) c.loop-session.invariant

pub returns : goal.returns
returns c =
    let xs = c.deref-session-items.result.now in
    let is : xs ≡ c.args.self.now.values = c.deref-session-items.ensures.value ∙ ap (λ (v : SessionsView). v.values) c.self.view_is in
    let none = none_there (λ (s : RecorderSession). s.recording) c.args.recording.now xs _ c.loop-session-test.false c.loop-session.invariant in
    sym none.found ∙ ap (find (λ (s : RecorderSession). s.recording) c.args.recording.now) is
