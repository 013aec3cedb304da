use Rattle.std.proofs.Common.{◌≡◌, ◌∙◌, ap, refl, sym, subst, List}
use Rattle.std.specs.Prelude.{Err, Ok, Result}
use Rattle.archive_model.specs.declared.reply.Reply.TheVariants as replies
use Rattle.catalogue_log.specs.Groups.{AdmitsAll, AreHeld}
use Rattle.control_core.specs.Changes.{settled_each}
use Rattle.engine_core.proofs.Words.{EngineState, Entry, FileId, IsTied, Refusal, RegisterState, Reply, after_failure, state_of}
use Rattle.engine_core.specs.Grouping.{AreSegments, entries_each, segments_each}
use Rattle.engine_core.proofs.calls.CommitCallLemmas.{tied_refused}
use Rattle.engine_core.proofs.calls.GroupCallLemmas.{are_segments, held_each}
use Rattle.engine_core.proofs.calls.GroupEndLemmas.{all_keep, all_refused, all_told, asked_all, group_few, group_leads, group_room, group_tied, group_touches, together_done, together_failed}
use Rattle.engine_core.proofs.calls.KeepLemmas.{failed_desk}
use Rattle.engine_core.proofs.stored.StoredArchive.settle_group.Goals as goal

pub settle_all-requires-clause-held : goal.settle_all-requires-clause-held
settle_all-requires-clause-held g c =
    subst (AreHeld c.args.self.now.storage.log.header.version) (sym (c.deref-2.ensures.value ∙ c.requires.is.entries)) (held_each c.args.self.now.desk.state c.args.self.now.storage.log.header.version c.args.sessions.now)

pub settle_all-requires-clause-few : goal.settle_all-requires-clause-few
settle_all-requires-clause-few g c =
    let d = c.args.self.now.desk.state in
    let ns = c.args.sessions.now in
    let files = c.deref.result.now in
    let es = c.deref-2.result.now in
    group_few d ns files es (asked_all d ns files es c.requires.is.keeps (c.deref.ensures.value ∙ c.requires.is.segments) (c.deref-2.ensures.value ∙ c.requires.is.entries) c.requires.passes c.requires.some)

pub settle_all-requires-clause-room : goal.settle_all-requires-clause-room
settle_all-requires-clause-room g c =
    let d = c.args.self.now.desk.state in
    let ns = c.args.sessions.now in
    let files = c.deref.result.now in
    let es = c.deref-2.result.now in
    group_room d ns files es (asked_all d ns files es c.requires.is.keeps (c.deref.ensures.value ∙ c.requires.is.segments) (c.deref-2.ensures.value ∙ c.requires.is.entries) c.requires.passes c.requires.some) c.args.self.now.storage.log c.args.self.now.tied

pub settle_all-requires-clause-segments : goal.settle_all-requires-clause-segments
settle_all-requires-clause-segments g c = subst AreSegments (sym (c.deref.ensures.value ∙ c.requires.is.segments)) (are_segments c.args.self.now.desk.state c.args.sessions.now)

pub invariant_of-self : goal.invariant_of-self
invariant_of-self g c =
    let d = c.args.self.now.desk.state in
    let ns = c.args.sessions.now in
    let files = c.deref.result.now in
    let es = c.deref-2.result.now in
    let log = c.args.self.now.storage.log in
    let asks = asked_all d ns files es c.requires.is.keeps (c.deref.ensures.value ∙ c.requires.is.segments) (c.deref-2.ensures.value ∙ c.requires.is.entries) c.requires.passes c.requires.some in
    record { tied = group_tied d ns files es asks log c.settle_all.new.self.log c.settle_each.new.self.state c.args.self.now.tied c.in-Ok.ensures.adds.bank.header c.in-Ok.ensures.adds.works c.in-Ok.ensures.adds.counted c.settle_each.ensures }

pub invariant_of-self-in-Err : goal.invariant_of-self-in-Err
invariant_of-self-in-Err g c =
    record { tied = subst (IsTied c.settle_all.new.self.log) (sym c.failed.ensures.state) (tied_refused c.args.self.now.storage.log c.settle_all.new.self.log c.args.self.now.desk.state c.in-Err.refusal c.args.self.now.tied c.in-Err.ensures.adds.kept) }

pub returns-in-Ok-clause-settles : goal.returns-in-Ok-clause-settles
returns-in-Ok-clause-settles g c =
    let life = g.D.Disk.life in
    let old = state_of life c.args.self.now in
    let new : EngineState = record { life = life c.settle_all.new.self.disk; log = c.settle_all.new.self.log; desk = c.settle_each.new.self.state } in
    let ns = c.args.sessions.now in
    let files = c.deref.result.now in
    let es = c.deref-2.result.now in
    let asks = asked_all old.desk ns files es c.requires.is.keeps (c.deref.ensures.value ∙ c.requires.is.segments) (c.deref-2.ensures.value ∙ c.requires.is.entries) c.requires.passes c.requires.some in
    together_done old new ns files es asks (g.met.D.Disk.reads_may_stay c.args.self.now.storage.disk) c.in-Ok.ensures.keeps (replies.SettledAll c.args.positions) c.in-Ok.ensures.adds c.settle_each.ensures c.in-Ok.ensures.moves

pub returns-in-Err-clause-settles : goal.returns-in-Err-clause-settles
returns-in-Err-clause-settles g c =
    let life = g.D.Disk.life in
    let old = state_of life c.args.self.now in
    let new : EngineState = record { life = life c.settle_all.new.self.disk; log = c.settle_all.new.self.log; desk = c.failed.new.desk.state } in
    let ns = c.args.sessions.now in
    let files = c.deref.result.now in
    let es = c.deref-2.result.now in
    let asks = asked_all old.desk ns files es c.requires.is.keeps (c.deref.ensures.value ∙ c.requires.is.segments) (c.deref-2.ensures.value ∙ c.requires.is.entries) c.requires.passes c.requires.some in
    together_failed old new ns files es asks (g.met.D.Disk.reads_may_stay c.args.self.now.storage.disk) c.in-Err.ensures.keeps (replies.SettledAll c.args.positions) c.in-Err.refusal c.failed.result c.failed.ensures.same c.in-Err.ensures.adds c.in-Err.ensures.quiet c.failed.ensures.state c.in-Err.ensures.moves

pub returns-in-Ok-clause-touches : goal.returns-in-Ok-clause-touches
returns-in-Ok-clause-touches g c =
    group_touches (state_of g.D.Disk.life c.args.self.now) (g.D.Disk.life c.settle_all.new.self.disk) c.args.sessions.now c.deref.result.now (c.deref.ensures.value ∙ c.requires.is.segments) c.in-Ok.ensures.touches c.in-Ok.ensures.keeps

pub returns-in-Err-clause-touches : goal.returns-in-Err-clause-touches
returns-in-Err-clause-touches g c =
    group_touches (state_of g.D.Disk.life c.args.self.now) (g.D.Disk.life c.settle_all.new.self.disk) c.args.sessions.now c.deref.result.now (c.deref.ensures.value ∙ c.requires.is.segments) c.in-Err.ensures.touches c.in-Err.ensures.keeps

pub returns-in-Ok-clause-catalogue : goal.returns-in-Ok-clause-catalogue
returns-in-Ok-clause-catalogue g c =
    let life = g.D.Disk.life in
    let old = state_of life c.args.self.now in
    let new : EngineState = record { life = life c.settle_all.new.self.disk; log = c.settle_all.new.self.log; desk = c.settle_each.new.self.state } in
    let ns = c.args.sessions.now in
    let files = c.deref.result.now in
    let es = c.deref-2.result.now in
    let asks = asked_all old.desk ns files es c.requires.is.keeps (c.deref.ensures.value ∙ c.requires.is.segments) (c.deref-2.ensures.value ∙ c.requires.is.entries) c.requires.passes c.requires.some in
    let leads = group_leads old.desk ns files es asks in
    let told : Reply = replies.SettledAll c.args.positions in
    all_keep old new es (settled_each ns old.desk).register (Ok told) leads.makes
    (λ rs rests makes. all_told old.life new.life old.log new.log rs es told (c.in-Ok.ensures.entries rs rests (subst (λ (r : RegisterState). AdmitsAll r es) (sym makes) leads.admitted)))
    (ap (λ s. s.register) c.settle_each.ensures)

pub returns-in-Err-clause-catalogue : goal.returns-in-Err-clause-catalogue
returns-in-Err-clause-catalogue g c =
    let life = g.D.Disk.life in
    let old = state_of life c.args.self.now in
    let new : EngineState = record { life = life c.settle_all.new.self.disk; log = c.settle_all.new.self.log; desk = c.failed.new.desk.state } in
    let ns = c.args.sessions.now in
    let files = c.deref.result.now in
    let es = c.deref-2.result.now in
    let asks = asked_all old.desk ns files es c.requires.is.keeps (c.deref.ensures.value ∙ c.requires.is.segments) (c.deref-2.ensures.value ∙ c.requires.is.entries) c.requires.passes c.requires.some in
    let leads = group_leads old.desk ns files es asks in
    let told : Result Reply Refusal = Err c.failed.result in
    let same_told : told ≡ Err c.in-Err.refusal = ap (λ (r : Refusal). Err r) c.failed.ensures.same in
    all_keep old new es (settled_each ns old.desk).register told leads.makes
    (λ rs rests makes. all_refused old.life new.life old.log new.log rs es c.in-Err.refusal told same_told (c.in-Err.ensures.entries rs rests (subst (λ (r : RegisterState). AdmitsAll r es) (sym makes) leads.admitted)))
    (failed_desk old new.desk (settled_each ns old.desk).register c.in-Err.refusal told same_told c.in-Err.ensures.adds.outside c.failed.ensures.state)
