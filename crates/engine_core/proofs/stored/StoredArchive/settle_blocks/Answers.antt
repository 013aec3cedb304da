use Rattle.std.proofs.Common.{rules, ◌≡◌, ◌∙◌, ap, refl, sym, subst, ℤ, Ok, to_z, of_z, w64}
use Rattle.engine_core.proofs.Words.{EngineState, IsFromStart, IsLayout, IsTied, Layout, Refusal, Reply, SettlesAt, admits, after_entry, bank_file, file_of, state_of, session_in, settled}
use Rattle.archive_model.specs.declared.reply.Reply.TheVariants as replies
use Rattle.catalogue_entries.specs.declared.entry.Entry.TheVariants as entries
use Rattle.engine_core.proofs.calls.CommitCallLemmas.{tied_refused}
use Rattle.engine_core.proofs.calls.SettleCallLemmas.{SettlesTo, asked, settled_layout, settled_start, settled_tied, settles, settling_done, settling_failed, settling_room, settling_works}
use Rattle.std.specs.Prelude.{Err, Result, unsigned_abs}
use Rattle.engine_core.proofs.calls.EntryLemmas.{settled_admitted, settled_makes}
use Rattle.engine_core.proofs.calls.KeepLemmas.{added_keeps, failed_desk, refused_behind, told_behind}
use Rattle.engine_core.proofs.stored.StoredArchive.settle_blocks.Goals as goal

pub settle-requires-clause-layout : goal.settle-requires-clause-layout
settle-requires-clause-layout g c =
    subst IsLayout (sym c.requires.layout_is)
    (settled_layout c.args.self.now.desk.state c.args.session.now c.args.settlement.now.recording c.args.settlement.now.written c.requires.known c.requires.keeps c.requires.decided c.requires.is_known)

pub settle-requires-clause-recorded : goal.settle-requires-clause-recorded
settle-requires-clause-recorded g c =
    let at = to_z w64 (of_z w64 c.args.settlement.now.written.first) in
    let same : c.args.settlement.now.written.first ≡ at = search rules in
    subst (λ (p : ℤ). IsFromStart c.args.settlement.now.layout p) same
    (subst (λ (l : Layout). IsFromStart l c.args.settlement.now.written.first) (sym c.requires.layout_is)
    (settled_start c.args.self.now.desk.state c.args.session.now c.args.settlement.now.recording c.args.settlement.now.written c.requires.known c.requires.keeps c.requires.decided c.requires.is_known))

pub settle-requires-clause-works : goal.settle-requires-clause-works
settle-requires-clause-works g c = settling_works c.args.self.now.storage.log c.args.self.now.desk.state c.args.session.now c.args.settlement.now.recording c.args.settlement.now.written c.args.self.now.tied c.requires.decided

pub settle-requires-clause-room : goal.settle-requires-clause-room
settle-requires-clause-room g c = settling_room c.args.self.now.storage.log c.args.self.now.desk.state c.args.session.now c.args.settlement.now.recording c.args.settlement.now.written
    (entries.Settle (to_z w64 (of_z w64 c.args.settlement.now.recording)) (to_z w64 (of_z w64 c.args.settlement.now.written.last))) c.args.self.now.tied c.requires.decided

pub settle-requires-in-Ok-clause-room : goal.settle-requires-in-Ok-clause-room
settle-requires-in-Ok-clause-room g c = (settles c.args.self.now.desk.state c.args.session.now c.args.settlement.now.recording c.args.settlement.now.written c.requires.decided).room

pub invariant_of-self : goal.invariant_of-self
invariant_of-self g c =
    let desk = c.args.self.now.desk.state in
    let log = c.args.self.now.storage.log in
    let n = c.args.session.now in
    let id = c.args.settlement.now.recording in
    let w = c.args.settlement.now.written in
    let layout = c.args.settlement.now.layout in
    let first = to_z w64 (of_z w64 w.first) in
    let last = to_z w64 (of_z w64 w.last) in
    let number = to_z w64 (of_z w64 id) in
    let same_first : w.first ≡ first = search rules in
    let same_last : w.last ≡ last = search rules in
    let same_id : id ≡ number = search rules in
    let asks = asked desk n id w layout first last number c.requires.known c.requires.decided c.requires.is_known c.requires.layout_is same_first same_last same_id in
    record { tied = settled_tied log desk n id w layout first (entries.Settle number last) c.args.self.now.tied asks c.settle.new.self.log c.settle-in-Ok.new.self.state c.in-Ok.ensures.adds.bank.header c.in-Ok.ensures.adds.works c.in-Ok.ensures.adds.counted c.settle-in-Ok.ensures }

pub returns-in-Ok-clause-settles : goal.returns-in-Ok-clause-settles
returns-in-Ok-clause-settles g c =
    let life = g.D.Disk.life in
    let old = state_of life c.args.self.now in
    let new : EngineState = record { life = life c.settle.new.self.disk; log = c.settle.new.self.log; desk = c.settle-in-Ok.new.self.state } in
    let n = c.args.session.now in
    let id = c.args.settlement.now.recording in
    let w = c.args.settlement.now.written in
    let layout = c.args.settlement.now.layout in
    let first = to_z w64 (of_z w64 w.first) in
    let last = to_z w64 (of_z w64 w.last) in
    let number = to_z w64 (of_z w64 id) in
    let same_first : w.first ≡ first = search rules in
    let same_last : w.last ≡ last = search rules in
    let same_id : id ≡ number = search rules in
    let entry = entries.Settle number last in
    let asks = asked old.desk n id w layout first last number c.requires.known c.requires.decided c.requires.is_known c.requires.layout_is same_first same_last same_id in
    subst (λ (z : ℤ). SettlesTo old new n id w layout first entry c.args.self.now.tied asks c.in-Ok.ensures.keeps (Ok (replies.Settled z))) same_last
    (settling_done old new n id w layout first entry c.args.self.now.tied asks c.in-Ok.ensures.keeps c.in-Ok.ensures.adds c.settle-in-Ok.ensures c.in-Ok.ensures.moves)

pub invariant_of-self-in-Err : goal.invariant_of-self-in-Err
invariant_of-self-in-Err g c =
    record { tied = subst (IsTied c.settle.new.self.log) (sym c.failed.ensures.state) (tied_refused c.args.self.now.storage.log c.settle.new.self.log c.args.self.now.desk.state c.in-Err.refusal c.args.self.now.tied c.in-Err.ensures.adds.kept) }

pub returns-clause-settles : goal.returns-clause-settles
returns-clause-settles g c =
    let life = g.D.Disk.life in
    let old = state_of life c.args.self.now in
    let new : EngineState = record { life = life c.settle.new.self.disk; log = c.settle.new.self.log; desk = c.failed.new.desk.state } in
    let n = c.args.session.now in
    let id = c.args.settlement.now.recording in
    let w = c.args.settlement.now.written in
    let layout = c.args.settlement.now.layout in
    let first = to_z w64 (of_z w64 w.first) in
    let last = to_z w64 (of_z w64 w.last) in
    let number = to_z w64 (of_z w64 id) in
    let same_first : w.first ≡ first = search rules in
    let same_last : w.last ≡ last = search rules in
    let same_id : id ≡ number = search rules in
    let asks = asked old.desk n id w layout first last number c.requires.known c.requires.decided c.requires.is_known c.requires.layout_is same_first same_last same_id in
    settling_failed old new n id w layout first (entries.Settle number last) c.args.self.now.tied asks c.in-Err.ensures.keeps c.in-Err.refusal c.failed.result c.failed.ensures.same c.in-Err.ensures.adds c.in-Err.ensures.quiet c.failed.ensures.state c.in-Err.ensures.moves

pub returns-in-Ok-clause-touches : goal.returns-in-Ok-clause-touches
returns-in-Ok-clause-touches g c =
    let first : to_z w64 (of_z w64 c.args.settlement.now.written.first) ≡ c.args.settlement.now.written.first = search rules in
    subst (λ z. SettlesAt (g.D.Disk.life c.args.self.now.storage.disk) (g.D.Disk.life c.settle.new.self.disk) (file_of c.args.settlement.now.layout (unsigned_abs z)) (bank_file c.args.self.now.storage.log.bank)) first c.in-Ok.ensures.touches

pub returns-clause-touches : goal.returns-clause-touches
returns-clause-touches g c =
    let first : to_z w64 (of_z w64 c.args.settlement.now.written.first) ≡ c.args.settlement.now.written.first = search rules in
    subst (λ z. SettlesAt (g.D.Disk.life c.args.self.now.storage.disk) (g.D.Disk.life c.settle.new.self.disk) (file_of c.args.settlement.now.layout (unsigned_abs z)) (bank_file c.args.self.now.storage.log.bank)) first c.in-Err.ensures.touches

pub returns-in-Ok-clause-catalogue : goal.returns-in-Ok-clause-catalogue
returns-in-Ok-clause-catalogue g c =
    let d = c.args.self.now.desk.state in
    let n = c.args.session.now in
    let id = c.args.settlement.now.recording in
    let w = c.args.settlement.now.written in
    let last = to_z w64 (of_z w64 w.last) in
    let number = to_z w64 (of_z w64 id) in
    let same_last : w.last ≡ last = search rules in
    let same_id : id ≡ number = search rules in
    let same : entries.Settle id w.last ≡ entries.Settle number last = ap (λ (z : ℤ). entries.Settle z w.last) same_id ∙ ap (entries.Settle number) same_last in
    let old = state_of g.D.Disk.life c.args.self.now in
    let new : EngineState = record { life = g.D.Disk.life c.settle.new.self.disk; log = c.settle.new.self.log; desk = c.settle-in-Ok.new.self.state } in
    let told : Reply = replies.Settled last in
    added_keeps old new (entries.Settle number last) (settled (session_in d n) d).register (Ok told) (ap (after_entry d.register) (sym same) ∙ settled_makes d n id w c.requires.keeps c.requires.decided)
    (λ es rests makes. told_behind old.life new.life old.log new.log es (entries.Settle number last) (entries.Settle number last) told refl (c.in-Ok.ensures.entries es rests (ap (λ r. admits r (entries.Settle number last)) makes ∙ ap (admits d.register) (sym same) ∙ settled_admitted d n id w c.requires.keeps c.requires.decided)))
    (ap (λ s. s.register) c.settle-in-Ok.ensures)

pub returns-clause-catalogue : goal.returns-clause-catalogue
returns-clause-catalogue g c =
    let d = c.args.self.now.desk.state in
    let n = c.args.session.now in
    let id = c.args.settlement.now.recording in
    let w = c.args.settlement.now.written in
    let last = to_z w64 (of_z w64 w.last) in
    let number = to_z w64 (of_z w64 id) in
    let same_last : w.last ≡ last = search rules in
    let same_id : id ≡ number = search rules in
    let same : entries.Settle id w.last ≡ entries.Settle number last = ap (λ (z : ℤ). entries.Settle z w.last) same_id ∙ ap (entries.Settle number) same_last in
    let old = state_of g.D.Disk.life c.args.self.now in
    let new : EngineState = record { life = g.D.Disk.life c.settle.new.self.disk; log = c.settle.new.self.log; desk = c.failed.new.desk.state } in
    let told : Result Reply Refusal = Err c.failed.result in
    let same_told : told ≡ Err c.in-Err.refusal = ap (λ (r : Refusal). Err r) c.failed.ensures.same in
    added_keeps old new (entries.Settle number last) (settled (session_in d n) d).register told (ap (after_entry d.register) (sym same) ∙ settled_makes d n id w c.requires.keeps c.requires.decided)
    (λ es rests makes. refused_behind old.life new.life old.log new.log es (entries.Settle number last) (entries.Settle number last) c.in-Err.refusal told same_told refl (c.in-Err.ensures.entries es rests (ap (λ r. admits r (entries.Settle number last)) makes ∙ ap (admits d.register) (sym same) ∙ settled_admitted d n id w c.requires.keeps c.requires.decided)))
    (failed_desk old new.desk (settled (session_in d n) d).register c.in-Err.refusal told same_told c.in-Err.ensures.adds.outside c.failed.ensures.state)
