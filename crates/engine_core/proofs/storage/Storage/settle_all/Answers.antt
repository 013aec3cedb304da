use Rattle.std.proofs.Common.{rules, ◌≡◌, ap, subst, sym}
use Rattle.std.specs.Prelude.{Err, Ok}
use Rattle.engine_core.proofs.Words.{ChangesThese, Moves, bank_file}
use Rattle.engine_core.specs.Grouping.{AddsAllBehind, AddsEntries}
use Rattle.engine_core.proofs.calls.EndedLemmas.{goes_on_here}
use Rattle.engine_core.proofs.calls.TouchLemmas.{quiet_these, still_quiet}
use Rattle.engine_core.proofs.files.GroupLemmas.{all_faults, all_settled_adds, banks_stay, log_all, none_added, none_adds, synced_all, these_lead, these_only, these_read, these_touched, these_unsynced, unsynced_all}
use Rattle.engine_core.proofs.files.SettleLemmas.{commit_reads, fault_alone, prepared_sound, same_reads, settle_moves, unprepared}
use Rattle.engine_core.proofs.storage.Storage.settle_all.Goals as goal

pub returns-in_err-prepare_all-clause-moves : goal.returns-in_err-prepare_all-clause-moves
returns-in_err-prepare_all-clause-moves g c s u sound becomes enter =
    let life = g.D.Disk.life c.args.self.now.disk in
    let refused : c.from_residual.result ≡ Err c.in_err-prepare_all.field-0.0 = search rules in
    subst (Moves life life c.prepare_all.new.self s u) (sym refused) (unprepared life c.args.self.now.log c.prepare_all.new.self s u c.in_err-prepare_all.field-0.0 c.in_err-prepare_all.ensures.err c.in_err-prepare_all.ensures.refusal sound)

pub returns-in_err-prepare_all-clause-entries : goal.returns-in_err-prepare_all-clause-entries
returns-in_err-prepare_all-clause-entries g c es rests admitted =
    let life = g.D.Disk.life c.args.self.now.disk in
    let log = c.args.self.now.log in
    let refused : c.from_residual.result ≡ Err c.in_err-prepare_all.field-0.0 = search rules in
    subst (AddsAllBehind life life log c.prepare_all.new.self es c.args.entries.now) (sym refused) (none_added log es c.args.entries.now life c.prepare_all.new.self c.in_err-prepare_all.field-0.0 rests c.in_err-prepare_all.ensures.err)

pub returns-in_err-sync_all-clause-moves : goal.returns-in_err-sync_all-clause-moves
returns-in_err-sync_all-clause-moves g c s u sound becomes enter =
    let old = g.D.Disk.life c.args.self.now.disk in
    let mid = g.D.Disk.life c.sync_all.new.disk in
    let log = c.prepare_all.new.self in
    let refused : c.from_residual-in_err-sync_all.result ≡ Err c.in_err-sync_all.field-0.0 = search rules in
    subst (Moves old mid log s u) (sym refused)
    (these_unsynced c.in_err-sync_all.field-0.0 old mid log s u (g.met.D.Disk.reads_may_stay c.args.self.now.disk) (prepared_sound old.now c.args.self.now.log log s (c.prepare_all.ensures.at_rest old.now) sound) c.in_err-sync_all.ensures.refused.0 c.in_err-sync_all.ensures.only)

pub returns-in_err-sync_all-clause-entries : goal.returns-in_err-sync_all-clause-entries
returns-in_err-sync_all-clause-entries g c es rests admitted =
    let old = g.D.Disk.life c.args.self.now.disk in
    let mid = g.D.Disk.life c.sync_all.new.disk in
    let prepared = c.prepare_all.new.self in
    let refused : c.from_residual-in_err-sync_all.result ≡ Err c.in_err-sync_all.field-0.0 = search rules in
    subst (AddsAllBehind old mid c.args.self.now.log prepared es c.args.entries.now) (sym refused)
    (log_all old mid c.args.self.now.log prepared prepared es c.args.entries.now _ (ap (λ log. log.header) c.prepare_all.ensures.same)
    (unsynced_all prepared es c.args.entries.now old mid c.in_err-sync_all.field-0.0 c.in_err-sync_all.ensures.refused.0 (c.prepare_all.ensures.at_rest old.now es rests) c.in_err-sync_all.ensures.only.any_moment))

pub returns-clause-moves : goal.returns-clause-moves
returns-clause-moves g c s u sound becomes enter =
    let old = g.D.Disk.life c.args.self.now.disk in
    let mid = g.D.Disk.life c.sync_all.new.disk in
    let log = c.prepare_all.new.self in
    let ready = prepared_sound old.now c.args.self.now.log log s (c.prepare_all.ensures.at_rest old.now) sound in
    let lead = these_lead c.args.segments.now old mid log s u c.args.entries.now (g.met.D.Disk.reads_may_stay c.args.self.now.disk) c.requires.segments c.in_ok-sync_all.ensures ready becomes enter in
    settle_moves c.commit_all.result old mid (g.D.Disk.life c.commit_all.new.self.disk) log c.commit_all.new.self.log s u ready c.in_ok-sync_all.ensures.only.any_moment (c.commit_all.ensures.moves s u lead.0 lead.1)

pub returns-clause-entries : goal.returns-clause-entries
returns-clause-entries g c es rests admitted =
    let old = g.D.Disk.life c.args.self.now.disk in
    let mid = g.D.Disk.life c.sync_all.new.disk in
    let new = g.D.Disk.life c.commit_all.new.self.disk in
    let prepared = c.prepare_all.new.self in
    let banks = banks_stay c.args.segments.now old mid (Ok tt) c.requires.segments c.in_ok-sync_all.ensures in
    log_all old new c.args.self.now.log prepared c.commit_all.new.self.log es c.args.entries.now c.commit_all.result (ap (λ log. log.header) c.prepare_all.ensures.same)
    (synced_all prepared es c.args.entries.now c.commit_all.result old mid new c.commit_all.new.self.log (c.prepare_all.ensures.at_rest old.now es rests) c.in_ok-sync_all.ensures.only.any_moment
    (λ at_rest. c.commit_all.ensures.entries es at_rest admitted) banks.0 banks.1)
