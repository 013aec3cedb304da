use Rattle.std.proofs.Common.{rules, ◌≡◌, sym, ap, subst, refl, ◌∙◌}
use Rattle.std.specs.Prelude.{Ok, Err, Result}
use Rattle.engine_core.proofs.Words.{DeskState, EngineState, IsTied, Refusal, Reply, admits, after_entry, after_failure, desk_after, reply_after, state_of}
use Rattle.engine_core.proofs.calls.MakeLemmas.{IsEntryFor, commits_done, commits_refused, has_room, made_tied, held_for, unmade}
use Rattle.engine_core.proofs.calls.TouchLemmas.{quiet_these, still_quiet}
use Rattle.engine_core.specs.Catalogued.{entry_by}
use Rattle.engine_core.proofs.calls.EntryLemmas.{allowed_entry}
use Rattle.engine_core.proofs.calls.KeepLemmas.{added_keeps, failed_desk, kept_entry, none_behind, quiet_keeps, refused_behind, told_behind}
use Rattle.engine_core.proofs.stored.StoredArchive.make.Goals as goal

pub returns-in_err-entry-clause-made : goal.returns-in_err-entry-clause-made
returns-in_err-entry-clause-made g c =
    let is : c.from_residual.result ≡ Err c.in_err-entry.field-0.0 = search rules in
    unmade _ _ _ _ _ c.from_residual.result refl refl refl (is ∙ ap Err c.in_err-entry.ensures.err)

pub returns-in_err-reserve-clause-made : goal.returns-in_err-reserve-clause-made
returns-in_err-reserve-clause-made g c =
    let is : c.from_residual-in_err-reserve.result ≡ Err c.in_err-reserve.field-0.0 = search rules in
    unmade _ _ _ _ _ c.from_residual-in_err-reserve.result refl refl c.in_err-reserve.ensures.state (is ∙ ap Err c.in_err-reserve.ensures.err)

pub commit-requires-clause-held : goal.commit-requires-clause-held
commit-requires-clause-held g c =
    let d = c.args.self.now.desk.state in
    let entry : IsEntryFor d c.args.command c.in_ok-entry.entry = record { is = λ s next. (let known : s.next ≡ c.next_recording.result = next ∙ sym c.next_recording.ensures in c.in_ok-entry.ensures.ok s (search (rules, known))) } in
    held_for c.args.self.now.storage.log d c.args.command c.in_ok-entry.entry c.args.self.now.tied c.requires.works c.requires.allowed entry

pub commit-requires-clause-works : goal.commit-requires-clause-works
commit-requires-clause-works g c = c.args.self.now.tied.works c.requires.works

pub commit-requires-clause-room : goal.commit-requires-clause-room
commit-requires-clause-room g c =
    let d = c.args.self.now.desk.state in
    let entry : IsEntryFor d c.args.command c.in_ok-entry.entry = record { is = λ s next. (let known : s.next ≡ c.next_recording.result = next ∙ sym c.next_recording.ensures in c.in_ok-entry.ensures.ok s (search (rules, known))) } in
    has_room c.args.self.now.storage.log d c.args.command c.in_ok-entry.entry c.args.self.now.tied c.requires.works c.requires.allowed entry

pub invariant_of-self-in-Ok : goal.invariant_of-self-in-Ok
invariant_of-self-in-Ok g c =
    let d = c.args.self.now.desk.state in
    let went = c.in-Ok.ensures in
    let adds = went.adds in
    let entry : IsEntryFor d c.args.command c.in_ok-entry.entry = record { is = λ s next. (let known : s.next ≡ c.next_recording.result = next ∙ sym c.next_recording.ensures in c.in_ok-entry.ensures.ok s (search (rules, known))) } in
    let desk : desk_after d c.args.command ≡ c.accept.new.self.state = sym (c.accept.ensures ∙ ap (λ (s : DeskState). desk_after s c.args.command) c.in_ok-reserve.ensures.state) in
    record { tied = subst (IsTied c.commit.new.self.log) desk (made_tied c.args.self.now.storage.log c.commit.new.self.log d c.args.command c.in_ok-entry.entry c.args.self.now.tied c.requires.works c.requires.requested entry adds.bank.header adds.works adds.counted) }

pub returns-in-Ok-clause-made : goal.returns-in-Ok-clause-made
returns-in-Ok-clause-made g c =
    let d = c.args.self.now.desk.state in
    let went = c.in-Ok.ensures in
    let entry : IsEntryFor d c.args.command c.in_ok-entry.entry = record { is = λ s next. (let known : s.next ≡ c.next_recording.result = next ∙ sym c.next_recording.ensures in c.in_ok-entry.ensures.ok s (search (rules, known))) } in
    commits_done _ _ c.args.command c.in_ok-entry.entry c.args.self.now.tied c.requires.works c.requires.allowed c.requires.requested entry went.changes c.reply-reply.result
    (c.reply-reply.ensures.reply ∙ ap (λ (s : DeskState). reply_after s c.args.command) c.in_ok-reserve.ensures.state)
    (c.accept.ensures ∙ ap (λ (s : DeskState). desk_after s c.args.command) c.in_ok-reserve.ensures.state)
    went.adds went.moves

pub returns-in-Err-clause-made : goal.returns-in-Err-clause-made
returns-in-Err-clause-made g c =
    let d = c.args.self.now.desk.state in
    let went = c.in-Err.ensures in
    let entry : IsEntryFor d c.args.command c.in_ok-entry.entry = record { is = λ s next. (let known : s.next ≡ c.next_recording.result = next ∙ sym c.next_recording.ensures in c.in_ok-entry.ensures.ok s (search (rules, known))) } in
    let same = c.failed.ensures.same in
    rw same (
    commits_refused _ _ c.args.command c.in_ok-entry.entry c.args.self.now.tied c.requires.works c.requires.allowed c.requires.requested entry went.changes c.in-Err.refusal
    (c.failed.ensures.state ∙ ap (λ (s : DeskState). after_failure c.in-Err.refusal s) c.in_ok-reserve.ensures.state)
    went.quiet went.adds went.moves
    )

pub returns-in-Err-clause-quiet : goal.returns-in-Err-clause-quiet
returns-in-Err-clause-quiet g c = λ other. c.in-Err.ensures.quiet (λ is. other (c.failed.ensures.same ∙ is))

pub returns-in_err-entry-clause-touches : goal.returns-in_err-entry-clause-touches
returns-in_err-entry-clause-touches g c = quiet_these _ 4 _ _ (still_quiet _)

pub returns-in_err-reserve-clause-touches : goal.returns-in_err-reserve-clause-touches
returns-in_err-reserve-clause-touches g c = quiet_these _ 4 _ _ (still_quiet _)

pub returns-in_err-entry-clause-entries : goal.returns-in_err-entry-clause-entries
returns-in_err-entry-clause-entries g c es rests makes =
    let is : c.from_residual.result ≡ Err c.in_err-entry.field-0.0 = search rules in
    none_behind _ _ es _ c.from_residual.result c.in_err-entry.field-0.0 is rests _ refl

pub returns-in_err-reserve-clause-entries : goal.returns-in_err-reserve-clause-entries
returns-in_err-reserve-clause-entries g c es rests makes =
    let is : c.from_residual-in_err-reserve.result ≡ Err c.in_err-reserve.field-0.0 = search rules in
    none_behind _ _ es _ c.from_residual-in_err-reserve.result c.in_err-reserve.field-0.0 is rests _ refl

pub returns-in-Ok-clause-entries : goal.returns-in-Ok-clause-entries
returns-in-Ok-clause-entries g c es rests makes =
    let d = c.args.self.now.desk.state in
    let entry : IsEntryFor d c.args.command c.in_ok-entry.entry = record { is = λ s next. (let known : s.next ≡ c.next_recording.result = next ∙ sym c.next_recording.ensures in c.in_ok-entry.ensures.ok s (search (rules, known))) } in
    let admitted = (allowed_entry d c.args.command c.in_ok-entry.entry entry c.requires.requested c.requires.allowed).0 in
    told_behind _ _ _ _ es c.in_ok-entry.entry _ c.reply-reply.result (kept_entry d c.args.command c.in_ok-entry.entry entry) (c.in-Ok.ensures.entries es rests (ap (λ r. admits r c.in_ok-entry.entry) makes ∙ admitted))

pub returns-in-Ok-clause-catalogue : goal.returns-in-Ok-clause-catalogue
returns-in-Ok-clause-catalogue g c =
    let d = c.args.self.now.desk.state in
    let entry : IsEntryFor d c.args.command c.in_ok-entry.entry = record { is = λ s next. (let known : s.next ≡ c.next_recording.result = next ∙ sym c.next_recording.ensures in c.in_ok-entry.ensures.ok s (search (rules, known))) } in
    added_keeps _ _ (entry_by d c.args.command) _ (Ok c.reply-reply.result)
    (subst (λ e. after_entry d.register e ≡ (desk_after d c.args.command).register) (kept_entry d c.args.command c.in_ok-entry.entry entry) (allowed_entry d c.args.command c.in_ok-entry.entry entry c.requires.requested c.requires.allowed).1)
    (returns-in-Ok-clause-entries g c)
    (ap (λ s. s.register) (c.accept.ensures ∙ ap (λ (s : DeskState). desk_after s c.args.command) c.in_ok-reserve.ensures.state))

pub returns-in-Err-clause-entries : goal.returns-in-Err-clause-entries
returns-in-Err-clause-entries g c es rests makes =
    let d = c.args.self.now.desk.state in
    let entry : IsEntryFor d c.args.command c.in_ok-entry.entry = record { is = λ s next. (let known : s.next ≡ c.next_recording.result = next ∙ sym c.next_recording.ensures in c.in_ok-entry.ensures.ok s (search (rules, known))) } in
    let admitted = (allowed_entry d c.args.command c.in_ok-entry.entry entry c.requires.requested c.requires.allowed).0 in
    refused_behind _ _ _ _ es c.in_ok-entry.entry _ c.in-Err.refusal (Err c.failed.result) (ap Err c.failed.ensures.same) (kept_entry d c.args.command c.in_ok-entry.entry entry) (c.in-Err.ensures.entries es rests (ap (λ r. admits r c.in_ok-entry.entry) makes ∙ admitted))

pub returns-in-Err-clause-catalogue : goal.returns-in-Err-clause-catalogue
returns-in-Err-clause-catalogue g c =
    let d = c.args.self.now.desk.state in
    let old = state_of g.D.Disk.life c.args.self.now in
    let new : EngineState = record { life = g.D.Disk.life c.commit.new.self.disk; log = c.commit.new.self.log; desk = c.failed.new.desk.state } in
    let entry : IsEntryFor d c.args.command c.in_ok-entry.entry = record { is = λ s next. (let known : s.next ≡ c.next_recording.result = next ∙ sym c.next_recording.ensures in c.in_ok-entry.ensures.ok s (search (rules, known))) } in
    let told : Result Reply Refusal = Err c.failed.result in
    let same_told : told ≡ Err c.in-Err.refusal = ap (λ (r : Refusal). Err r) c.failed.ensures.same in
    added_keeps old new (entry_by d c.args.command) (desk_after d c.args.command).register told
    (subst (λ e. after_entry d.register e ≡ (desk_after d c.args.command).register) (kept_entry d c.args.command c.in_ok-entry.entry entry) (allowed_entry d c.args.command c.in_ok-entry.entry entry c.requires.requested c.requires.allowed).1)
    (returns-in-Err-clause-entries g c)
    (failed_desk old new.desk (desk_after d c.args.command).register c.in-Err.refusal told same_told c.in-Err.ensures.adds.outside (c.failed.ensures.state ∙ ap (λ (s : DeskState). after_failure c.in-Err.refusal s) c.in_ok-reserve.ensures.state))

pub returns-in_err-entry-clause-catalogue : goal.returns-in_err-entry-clause-catalogue
returns-in_err-entry-clause-catalogue g c = quiet_keeps _ _ _ (still_quiet _) refl refl

pub returns-in_err-reserve-clause-catalogue : goal.returns-in_err-reserve-clause-catalogue
returns-in_err-reserve-clause-catalogue g c = quiet_keeps _ _ _ (still_quiet _) refl (ap (λ d. d.register) c.in_err-reserve.ensures.state)
