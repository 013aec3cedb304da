use Rattle.std.proofs.Common.{rules, ◌≡◌, ◌∙◌, ap, sym, subst, refl, Err}
use Rattle.std.proofs.Common.{to_z, of_z, w64}
use Rattle.control_core.specs.declared.event.Event.TheVariants as events
use Rattle.control_core.specs.Changes.{after_open}
use Rattle.control_core.specs.Orderly.{BeginsBy}
use Rattle.control_core.specs.Turns.{MayOpen}
use Rattle.control_core.proofs.CallLemmas.{opening_allowed}
use Rattle.engine_core.proofs.Words.{EndsEvent, open_decision, reads}
use Rattle.control_core.proofs.OpenedLemmas.{opens_from_start}
use Rattle.engine_core.proofs.replays.ReplayOpenLemmas.{open_done, open_refused, open_unkept}
use Rattle.engine_core.specs.Shown.{OpensShown}
use Rattle.engine_core.proofs.calls.ShownLemmas.{done_opening, memory_opening, refused_opening}
use Rattle.engine_core.proofs.calls.KeepLemmas.{quiet_keeps}
use Rattle.engine_core.proofs.stored.StoredArchive.open_replay.Goals as goal

pub returns-in_err-opening-clause-ends : goal.returns-in_err-opening-clause-ends
returns-in_err-opening-clause-ends g c =
    let refusal = c.in_err-opening.field-0.0 in
    let is : c.from_residual.result ≡ Err refusal = search rules in
    subst (EndsEvent _ _ (events.ReplayOpen c.args.recording.now c.args.position.now c.args.length.now)) (sym is)
    (open_refused _ _ c.args.recording.now c.args.position.now c.args.length.now refusal c.decided_opening.ensures.quiet refl refl c.in_err-opening.ensures.cause c.in_err-opening.ensures.allowed c.in_err-opening.ensures.decided)

pub returns-in_err-reserve_replay-clause-ends : goal.returns-in_err-reserve_replay-clause-ends
returns-in_err-reserve_replay-clause-ends g c =
    let refusal = c.in_err-reserve_replay.field-0.0 in
    let is : c.from_residual-in_err-reserve_replay.result ≡ Err refusal = search rules in
    subst (EndsEvent _ _ (events.ReplayOpen c.args.recording.now c.args.position.now c.args.length.now)) (sym (is ∙ ap Err c.in_err-reserve_replay.ensures.err))
    (open_unkept _ _ c.args.recording.now c.args.position.now c.args.length.now c.decided_opening.ensures.quiet refl c.reserve_replay.ensures.state)

pub open_replay-requires-clause-allowed : goal.open_replay-requires-clause-allowed
open_replay-requires-clause-allowed g c =
    subst (λ d. MayOpen d c.in_ok-opening.opening) (sym c.reserve_replay.ensures.state)
    (opening_allowed c.args.self.now.desk.state c.args.recording.now c.args.position.now c.args.length.now c.in_ok-opening.opening c.in_ok-opening.ensures.leads)

pub open_replay-requires-clause-from_start : goal.open_replay-requires-clause-from_start
open_replay-requires-clause-from_start g c =
    let o = c.in_ok-opening.opening in
    subst (λ d. BeginsBy o.next d.register o.recording) (sym c.reserve_replay.ensures.state)
    (opens_from_start c.args.self.now.desk.state c.args.recording.now c.args.position.now c.args.length.now o c.in_ok-opening.ensures.leads)

pub returns-clause-ends : goal.returns-clause-ends
returns-clause-ends g c =
    let o = c.in_ok-opening.opening in
    let state = c.reserve_replay.ensures.state in
    let number = to_z w64 (of_z w64 c.next_replay-replay.result) in
    let same : number ≡ c.next_replay-replay.result = search rules in
    let next : number ≡ c.args.self.now.desk.state.callers.next_replay = same ∙ c.next_replay-replay.ensures ∙ ap (λ d. d.callers.next_replay) state in
    open_done _ _ c.args.recording.now c.args.position.now c.args.length.now number o next c.decided_opening.ensures.quiet refl (c.open_replay.ensures ∙ ap (after_open o.recording o.next o.bound) state) c.in_ok-opening.ensures.leads c.in_ok-opening.ensures.decided

pub returns-in_err-opening-clause-shows : goal.returns-in_err-opening-clause-shows
returns-in_err-opening-clause-shows g c obeys =
    let refusal = c.in_err-opening.field-0.0 in
    let is : c.from_residual.result ≡ Err refusal = search rules in
    let d = c.args.self.now.desk.state in
    let image = reads (g.D.Disk.life c.args.self.now.storage.disk).now in
    let decision = open_decision d c.args.recording.now c.args.position.now c.args.length.now in
    subst (OpensShown image d c.args.recording.now decision) (sym is) (refused_opening image d c.args.recording.now decision refusal (c.in_err-opening.ensures.shows obeys))

pub returns-in_err-reserve_replay-clause-shows : goal.returns-in_err-reserve_replay-clause-shows
returns-in_err-reserve_replay-clause-shows g c obeys =
    let refusal = c.in_err-reserve_replay.field-0.0 in
    let is : c.from_residual-in_err-reserve_replay.result ≡ Err refusal = search rules in
    let d = c.args.self.now.desk.state in
    let decision = open_decision d c.args.recording.now c.args.position.now c.args.length.now in
    subst (OpensShown _ d c.args.recording.now decision) (sym (is ∙ ap Err c.in_err-reserve_replay.ensures.err)) (memory_opening _ d c.args.recording.now decision)

pub returns-clause-shows : goal.returns-clause-shows
returns-clause-shows g c obeys =
    let d = c.args.self.now.desk.state in
    let image = reads (g.D.Disk.life c.args.self.now.storage.disk).now in
    let decision = open_decision d c.args.recording.now c.args.position.now c.args.length.now in
    done_opening image d c.args.recording.now decision c.in_ok-opening.opening _ (c.in_ok-opening.ensures.shows obeys)

pub returns-in_err-opening-clause-catalogue : goal.returns-in_err-opening-clause-catalogue
returns-in_err-opening-clause-catalogue g c = quiet_keeps _ _ _ c.decided_opening.ensures.quiet refl refl

pub returns-in_err-reserve_replay-clause-catalogue : goal.returns-in_err-reserve_replay-clause-catalogue
returns-in_err-reserve_replay-clause-catalogue g c = quiet_keeps _ _ _ c.decided_opening.ensures.quiet refl (ap (λ d. d.register) c.reserve_replay.ensures.state)

pub returns-clause-catalogue : goal.returns-clause-catalogue
returns-clause-catalogue g c = quiet_keeps _ _ _ c.decided_opening.ensures.quiet refl (ap (λ d. d.register) (c.open_replay.ensures ∙ ap (after_open c.in_ok-opening.opening.recording c.in_ok-opening.opening.next c.in_ok-opening.opening.bound) c.reserve_replay.ensures.state))
