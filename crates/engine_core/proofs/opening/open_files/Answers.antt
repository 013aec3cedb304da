use Rattle.std.proofs.Common.{rules, ◌∙◌, subst, sym, arith}
use Rattle.std.proofs.lemmas.Result.{IfOk-weaker}
use Rattle.engine_core.proofs.Words.{log_catalogue, reads}
use Rattle.catalogue_entries.specs.Fold.{first_place}
use Rattle.control_core.specs.Orderly.{AreLaid}
use Rattle.engine_core.proofs.openings.EntryLaidLemmas.{entries_laid}
use Rattle.engine_core.proofs.openings.OpeningLemmas.{err_then, log_read, on_disk, open_sound, read_opened, same_refusal}
use Rattle.engine_core.proofs.opening.open_files.Goals as goal

pub returns-clause-sound : goal.returns-clause-sound
returns-clause-sound g c =
    let mid = g.D.Disk.life c.sync_segments.new.disk in
    IfOk-weaker c.open_register.result _ _
    (λ found opened obeys x recovers.
    (let sound = open_sound (g.D.Disk.life c.args.disk.now) mid (g.D.Disk.life c.open_register.new.disk) found.0 opened.entries x
    (c.in_ok-sync_segments.ensures.synced (c.open_register.ensures.same.obeyed obeys)) c.sync_segments.ensures.only c.open_register.ensures.same
    (log_catalogue (reads mid.now) found.0 opened.entries (opened.stands obeys)) (opened.at_rest obeys) recovers in
    (sound.0, opened.makes ∙ sound.1)))
    c.open_register.ensures.opened

pub returns-clause-laid : goal.returns-clause-laid
returns-clause-laid g c =
    IfOk-weaker c.open_register.result _ _ (λ found opened. subst AreLaid (sym opened.makes) (entries_laid (first_place found.0.header.version) opened.entries opened.admitted tt)) c.open_register.ensures.opened

pub returns-clause-log : goal.returns-clause-log
returns-clause-log g c =
    let old = g.D.Disk.life c.args.disk.now in
    let mid = g.D.Disk.life c.sync_segments.new.disk in
    let new = g.D.Disk.life c.open_register.new.disk in
    IfOk-weaker c.open_register.result _ _
    (λ found opened obeys. (
      opened.entries,
      log_read old new found.0 opened.entries (read_opened old mid new c.sync_segments.ensures.only c.open_register.ensures.same c.open_register.ensures.any_moment) (opened.at_rest obeys),
      opened.at_rest obeys,
      opened.makes,
    ))
    c.open_register.ensures.opened

pub returns-clause-refused : goal.returns-clause-refused
returns-clause-refused g c =
    err_then c.open_register.result _ _
    (λ refusal refused obeys. same_refusal (g.D.Disk.life c.args.disk.now) (g.D.Disk.life c.sync_segments.new.disk) refusal c.sync_segments.ensures.only (refused obeys))
    c.open_register.ensures.refused

pub returns-in_err-sync_segments-clause-files : goal.returns-in_err-sync_segments-clause-files
returns-in_err-sync_segments-clause-files g c =
    let only = c.sync_segments.ensures.only in
    let first = c.sync_segments.ensures.calls in
    record {
      before = search (rules, only);
      synced = search rules;
      calls = omega (arith, first);
      cause = λ fault. search (rules, fault);
    }

pub returns-clause-files : goal.returns-clause-files
returns-clause-files g c =
    let old = g.D.Disk.life c.args.disk.now in
    let mid = g.D.Disk.life c.sync_segments.new.disk in
    let new = g.D.Disk.life c.open_register.new.disk in
    let first = c.sync_segments.ensures.calls in
    record {
      before = read_opened old mid new c.sync_segments.ensures.only c.open_register.ensures.same c.open_register.ensures.any_moment;
      synced = IfOk-weaker c.open_register.result _ _
          (λ found opened obeys. on_disk old mid new (c.in_ok-sync_segments.ensures.synced (c.open_register.ensures.same.obeyed obeys)) c.open_register.ensures.same)
          c.open_register.ensures.opened;
      calls = search rules;
      cause = search rules;
    }
