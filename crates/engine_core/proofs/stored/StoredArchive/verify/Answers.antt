use Rattle.std.proofs.Common.{rules, ◌≡◌, ◌∙◌, ap, sym, subst, refl, Err}
use Rattle.std.proofs.Common.{to_z, of_z, w64}
use Rattle.control_core.specs.declared.event.Event.TheVariants as events
use Rattle.engine_core.proofs.Words.{EndsEvent, RefusesCount, checks, reads, registration_in}
use Rattle.engine_core.proofs.calls.KnownLemmas.{laid_found}
use Rattle.engine_core.proofs.replays.ReplayCallLemmas.{verified, verify_refused, verify_unread}
use Rattle.engine_core.proofs.replays.ReadLemmas.{count_read, counted_read}
use Rattle.std.proofs.Common.{false, Ok}
use Rattle.archive_model.specs.declared.reply.Reply.TheVariants as replies
use Rattle.std.specs.Prelude.{IfSome}
use Rattle.recording_reads.specs.Reading.{HasFrames}
use Rattle.control_core.specs.Turns.{verify_tests}
use Rattle.engine_core.specs.Shown.{CountsShown}
use Rattle.engine_core.proofs.calls.ShownLemmas.{checked_not, counted_shown, is_damage, uncounted_shown, unread_count}
use Rattle.engine_core.proofs.calls.KeepLemmas.{quiet_keeps, still_keeps}
use Rattle.engine_core.proofs.stored.StoredArchive.verify.Goals as goal

pub returns-in_err-known-clause-ends : goal.returns-in_err-known-clause-ends
returns-in_err-known-clause-ends g c =
    let is : c.from_residual.result ≡ Err c.in_err-known.field-0.0 = search rules in
    subst (EndsEvent _ _ (events.Verify c.args.recording.now)) (sym is) (verify_refused _ c.args.recording.now c.in_err-known.field-0.0 c.in_err-known.ensures.decided)

pub count_frames-requires : goal.count_frames-requires
count_frames-requires g c = (laid_found c.args.self.now.desk.state c.args.recording.now c.in_ok-known.known.now c.in_ok-known.ensures.keeps c.in_ok-known.ensures.found)

pub returns-in_err-frames-clause-ends : goal.returns-in_err-frames-clause-ends
returns-in_err-frames-clause-ends g c =
    let refusal = c.in_err-frames.field-0.0 in
    let is : c.from_residual-in_err-frames.result ≡ Err refusal = search rules in
    subst (EndsEvent _ _ (events.Verify c.args.recording.now)) (sym is)
    (verify_unread _ _ c.args.recording.now c.in_ok-known.known.now refusal c.count_frames.ensures.quiet refl refl (g.met.D.Disk.reads_may_stay c.args.self.now.storage.disk) c.in_ok-known.ensures.decided c.in_ok-known.ensures.found
    (λ fault. c.in_err-frames.ensures.cause (let same : refusal ≡ _ = cc in ap Err same)) c.in_err-frames.ensures.refused (λ r read. count_read _ _ c.in_ok-known.known.now r read refusal c.in_err-frames.ensures.refused))

pub returns-clause-ends : goal.returns-clause-ends
returns-clause-ends g c =
    let same : to_z w64 (of_z w64 c.in_ok-frames.frames) ≡ c.in_ok-frames.frames = search rules in
    verified _ _ c.args.recording.now c.in_ok-known.known.now _ c.count_frames.ensures.quiet refl refl (g.met.D.Disk.reads_may_stay c.args.self.now.storage.disk) c.in_ok-known.ensures.decided c.in_ok-known.ensures.found
    (λ r read. same ∙ counted_read _ _ c.in_ok-known.known.now r read _ (c.in_ok-frames.ensures.count read.obeys))

pub returns-in_err-known-clause-shows : goal.returns-in_err-known-clause-shows
returns-in_err-known-clause-shows g c obeys =
    let refusal = c.in_err-known.field-0.0 in
    let is : c.from_residual.result ≡ Err refusal = search rules in
    let d = c.args.self.now.desk.state in
    let other : is_damage refusal ≡ false = checked_not is_damage (verify_tests d c.args.recording.now) checks tt refusal refl c.in_err-known.ensures.decided in
    let image = reads (g.D.Disk.life c.args.self.now.storage.disk).now in
    subst (λ o. IfSome (registration_in d.register c.args.recording.now) (λ x. CountsShown image x o)) (sym is) (uncounted_shown image d c.args.recording.now refusal other)

pub returns-in_err-frames-clause-shows : goal.returns-in_err-frames-clause-shows
returns-in_err-frames-clause-shows g c obeys =
    let refusal = c.in_err-frames.field-0.0 in
    let is : c.from_residual-in_err-frames.result ≡ Err refusal = search rules in
    let d = c.args.self.now.desk.state in
    let known = c.in_ok-known.known.now in
    let image = reads (g.D.Disk.life c.args.self.now.storage.disk).now in
    subst (λ o. IfSome (registration_in d.register c.args.recording.now) (λ x. CountsShown image x o)) (sym is)
    (counted_shown image d c.args.recording.now known (Err refusal) c.in_ok-known.ensures.found
    (unread_count image d known refusal (subst (λ b. RefusesCount b image known refusal) obeys c.in_err-frames.ensures.refused)))

pub returns-clause-shows : goal.returns-clause-shows
returns-clause-shows g c obeys =
    let image = reads (g.D.Disk.life c.args.self.now.storage.disk).now in
    let known = c.in_ok-known.known.now in
    let same : to_z w64 (of_z w64 c.in_ok-frames.frames) ≡ c.in_ok-frames.frames = search rules in
    counted_shown image c.args.self.now.desk.state c.args.recording.now known (Ok (replies.Verified (to_z w64 (of_z w64 c.in_ok-frames.frames)))) c.in_ok-known.ensures.found (subst (HasFrames image known) (sym same) (c.in_ok-frames.ensures.count obeys))

pub returns-in_err-known-clause-catalogue : goal.returns-in_err-known-clause-catalogue
returns-in_err-known-clause-catalogue g c = still_keeps _ _

pub returns-in_err-frames-clause-catalogue : goal.returns-in_err-frames-clause-catalogue
returns-in_err-frames-clause-catalogue g c = quiet_keeps _ _ _ c.count_frames.ensures.quiet refl refl

pub returns-clause-catalogue : goal.returns-clause-catalogue
returns-clause-catalogue g c = quiet_keeps _ _ _ c.count_frames.ensures.quiet refl refl
