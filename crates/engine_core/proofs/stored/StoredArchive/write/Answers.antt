use Rattle.std.proofs.Common.{rules, ◌≡◌, ◌∙◌, ap, sym, subst, refl, ℤ, Ok, Err, to_z, of_z, w64}
use Rattle.std.specs.Prelude.{IsSomeAnd}
use Rattle.engine_core.proofs.Words.{DeviceFault, EndsEvent, EngineState, LiesBehind, NoMemory, Written, after_failure, end_position, registration_in, state_of, session_in, with_block, write_tests}
use Rattle.archive_model.specs.declared.reply.Reply.TheVariants.{Written as WrittenReply}
use Rattle.control_core.specs.declared.event.Event.TheVariants as events
use Rattle.control_core.specs.Changes.{after_write}
use Rattle.control_core.specs.Turns.{extent_of}
use Rattle.engine_core.proofs.calls.WriteCallLemmas.{write_done, write_fails, write_refused}
use Rattle.engine_core.proofs.calls.WritingLemmas.{behind_recorded, from_start, lies_behind, target_is, target_layout}
use Rattle.engine_core.proofs.calls.SweepCallLemmas.{one_refusal}
use Rattle.engine_core.proofs.calls.TouchLemmas.{block_written, checked_memory, nothing_written}
use Rattle.engine_core.proofs.calls.KeepLemmas.{banks_keep, still_keeps}
use Rattle.engine_core.proofs.stored.StoredArchive.write.Goals as goal

pub returns-in_err-found-clause-ends : goal.returns-in_err-found-clause-ends
returns-in_err-found-clause-ends g c =
    let e = state_of g.D.Disk.life c.args.self.now in
    let is : c.from_residual.result ≡ Err c.in_err-found.field-0.0 = search rules in
    subst (λ o. EndsEvent e e (events.Write c.args.session.now c.args.block.now) o) (sym is)
    (write_refused e c.args.session.now c.args.block.now c.in_err-found.field-0.0 c.in_err-found.ensures.keeps c.in_err-found.ensures.decided)

pub write-requires-clause-layout : goal.write-requires-clause-layout
write-requires-clause-layout g c =
    let found = c.in_ok-found.ensures in
    target_layout c.args.self.now.desk.state c.args.session.now c.args.block.now c.layout_of-layout.result (end_position c.args.block.now) (target_is _ _ _ c.in_ok-found.found _ found.decided found.keeps c.layout_of-layout.ensures)

pub write-requires-clause-recorded : goal.write-requires-clause-recorded
write-requires-clause-recorded g c =
    let found = c.in_ok-found.ensures in
    from_start c.args.self.now.desk.state c.args.session.now c.args.block.now c.layout_of-layout.result (end_position c.args.block.now) (target_is _ _ _ c.in_ok-found.found _ found.decided found.keeps c.layout_of-layout.ensures)
    (WrittenReply (end_position c.args.block.now)) (sym found.decided.decided)

pub note_written-requires-clause-behind : goal.note_written-requires-clause-behind
note_written-requires-clause-behind g c =
    let d = c.args.self.now.desk.state in
    let found = c.in_ok-found.ensures in
    subst (λ (w : Written). IsSomeAnd (session_in d c.args.session.now) (λ s. IsSomeAnd (registration_in d.register s.recording) (LiesBehind (with_block w s.written)))) (sym found.decided.span)
    (lies_behind d c.args.session.now c.args.block.now c.layout_of-layout.result (end_position c.args.block.now) (target_is _ _ _ c.in_ok-found.found _ found.decided found.keeps c.layout_of-layout.ensures)
    (WrittenReply (end_position c.args.block.now)) (sym found.decided.decided))

pub returns-in-Ok-clause-ends : goal.returns-in-Ok-clause-ends
returns-in-Ok-clause-ends g c =
    let life = g.D.Disk.life in
    let old = state_of life c.args.self.now in
    let new : EngineState = record { life = life c.write.new.self.disk; log = c.write.new.self.log; desk = c.note_written.new.self.state } in
    let block = c.args.block.now in
    let found = c.in_ok-found.ensures in
    let noted = c.note_written.ensures ∙ ap (λ w. after_write c.args.session.now w old.desk) found.decided.span in
    let last : end_position block ≡ to_z w64 (of_z w64 c.in_ok-found.found.span.last) = ap (λ (w : Written). w.last) (sym found.decided.span) ∙ search rules in
    subst (λ (z : ℤ). EndsEvent old new (events.Write c.args.session.now block) (Ok (WrittenReply z))) last
    (write_done old c.args.session.now block c.layout_of-layout.result (end_position block) (target_is _ _ _ c.in_ok-found.found _ found.decided found.keeps c.layout_of-layout.ensures)
    new (WrittenReply (end_position block)) (sym found.decided.decided) (Ok tt) c.in-Ok.ensures.touches.changes c.in-Ok.ensures.moves c.in-Ok.ensures.stays c.in-Ok.ensures.log refl noted
    c.in-Ok.ensures.written)

pub returns-in-Err-clause-ends : goal.returns-in-Err-clause-ends
returns-in-Err-clause-ends g c =
    let life = g.D.Disk.life in
    let old = state_of life c.args.self.now in
    let new : EngineState = record { life = life c.write.new.self.disk; log = c.write.new.self.log; desk = c.failed.new.desk.state } in
    let block = c.args.block.now in
    let found = c.in_ok-found.ensures in
    let fault = c.in-Err.ensures.refusal in
    write_fails old c.args.session.now block c.layout_of-layout.result (end_position block) (target_is _ _ _ c.in_ok-found.found _ found.decided found.keeps c.layout_of-layout.ensures)
    new (WrittenReply (end_position block)) (sym found.decided.decided) (Err c.in-Err.refusal) c.in-Err.ensures.touches.changes c.in-Err.ensures.moves c.in-Err.ensures.stays c.in-Err.ensures.log
    c.failed.result (c.failed.ensures.same ∙ fault) c.in-Err.ensures.cause (c.failed.ensures.state ∙ ap (λ refusal. after_failure refusal old.desk) fault)

pub returns-in_err-found-clause-touches : goal.returns-in_err-found-clause-touches
returns-in_err-found-clause-touches g c = nothing_written c.args.self.now.desk.state c.args.session.now c.args.block.now _

pub returns-in-Ok-clause-touches : goal.returns-in-Ok-clause-touches
returns-in-Ok-clause-touches g c =
    let found = c.in_ok-found.ensures in
    let block = c.args.block.now in
    let target = target_is c.args.self.now.desk.state c.args.session.now block c.in_ok-found.found c.layout_of-layout.result found.decided found.keeps c.layout_of-layout.ensures in
    block_written c.args.self.now.desk.state c.args.session.now block c.layout_of-layout.result (end_position block) target _ _
    (behind_recorded c.args.self.now.desk.state c.args.session.now block c.layout_of-layout.result (end_position block) target (WrittenReply (end_position block)) (sym found.decided.decided))
    c.in-Ok.ensures.touches.changes c.in-Ok.ensures.touches.calls c.in-Ok.ensures.touches.below

pub returns-in-Err-clause-touches : goal.returns-in-Err-clause-touches
returns-in-Err-clause-touches g c =
    let found = c.in_ok-found.ensures in
    let block = c.args.block.now in
    let target = target_is c.args.self.now.desk.state c.args.session.now block c.in_ok-found.found c.layout_of-layout.result found.decided found.keeps c.layout_of-layout.ensures in
    block_written c.args.self.now.desk.state c.args.session.now block c.layout_of-layout.result (end_position block) target _ _
    (behind_recorded c.args.self.now.desk.state c.args.session.now block c.layout_of-layout.result (end_position block) target (WrittenReply (end_position block)) (sym found.decided.decided))
    c.in-Err.ensures.touches.changes c.in-Err.ensures.touches.calls c.in-Err.ensures.touches.below

pub returns-in_err-found-clause-memory : goal.returns-in_err-found-clause-memory
returns-in_err-found-clause-memory g c memory =
    let d = c.args.self.now.desk.state in
    let block = c.args.block.now in
    let is : c.from_residual.result ≡ Err c.in_err-found.field-0.0 = search rules in
    let refused = c.in_err-found.ensures.decided in
    absurd (checked_memory (write_tests d c.args.session.now (extent_of block) refused.0) (WrittenReply (end_position block)) c.from_residual.result (is ∙ sym refused.2) memory)

pub returns-in-Err-clause-memory : goal.returns-in-Err-clause-memory
returns-in-Err-clause-memory g c memory =
    let same : c.failed.result ≡ DeviceFault = c.failed.ensures.same ∙ c.in-Err.ensures.refusal in
    absurd (let clash : DeviceFault ≡ NoMemory = sym same ∙ one_refusal (Err c.failed.result) _ _ refl memory in cc)

pub returns-in_err-found-clause-catalogue : goal.returns-in_err-found-clause-catalogue
returns-in_err-found-clause-catalogue g c = still_keeps _ _

pub returns-in-Ok-clause-catalogue : goal.returns-in-Ok-clause-catalogue
returns-in-Ok-clause-catalogue g c = banks_keep _ _ _ c.in-Ok.ensures.touches.banks c.in-Ok.ensures.log (ap (λ d. d.register) c.note_written.ensures)

pub returns-in-Err-clause-catalogue : goal.returns-in-Err-clause-catalogue
returns-in-Err-clause-catalogue g c =
    banks_keep _ _ _ c.in-Err.ensures.touches.banks c.in-Err.ensures.log (ap (λ d. d.register) (c.failed.ensures.state ∙ ap (λ refusal. after_failure refusal c.args.self.now.desk.state) c.in-Err.ensures.refusal))
