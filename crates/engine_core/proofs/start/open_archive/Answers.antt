use Rattle.std.proofs.Common.{◌∙◌, Err, ap, arith, inl, inr, subst, sym}
use Rattle.engine_core.proofs.Words.{Life, ReadsAsBefore, after_entries, no_recordings, reads, state_of, weaker}
use Rattle.engine_core.proofs.openings.ReopenLemmas.{banks_read, changed_bank, desk_read, either_then, goes_later, open_done, read_refused, read_refuses, reads_as, reads_otherwise, start_refuses, stop_refused}
use Rattle.engine_core.proofs.openings.FoundLemmas.{leaves_catalogue, makes_register, opens_catalogue, other_read, stopped_calls}
use Rattle.engine_core.proofs.start.open_archive.Goals as goal

pub returns-in-Ok : goal.returns-in-Ok
returns-in-Ok g c =
    let life = g.D.Disk.life in
    let old = life c.args.disk in
    let mid = life c.read_desk.new.disk in
    let log = c.in-Ok.log in
    let read = c.in-Ok.ensures in
    let before = c.read_desk.ensures.files.before in
    let may = g.met.D.Disk.reads_may_stay c.args.disk in
    either_then c.start.result _ _ _ _
    (λ started went. record {
      opened = λ s u leaves obeys.
          (let to = reads_as old s u may leaves in
          let sound = read.sound (went.changes.obeyed obeys) to.state to.recovers in
          open_done old mid s u log c.in-Ok.desk.state leaves before to sound.0 sound.1 (state_of life started.0) started.1 (g.met.D.Disk.reads_may_stay c.read_desk.new.disk) went);
      desk = λ obeys.
          (let found = read.log (went.changes.obeyed obeys) in
          desk_read (reads old.now) log found.0 c.in-Ok.desk.state started.0.desk.state started.1 found.1 found.3 (went.desk (after_entries no_recordings found.0) log.counted log.header.history_limit log.header.version found.3) went.stopped);
      banks = λ obeys. (let found = read.log (went.changes.obeyed obeys) in banks_read (reads old.now) log started.0.storage.log found.0 found.1 went.bank);
      goes_on = goes_later old mid (life started.0.storage.disk) before went.changes;
      others = reads_otherwise old mid (life started.0.storage.disk) before went.changes;
      other_bank = other_read old mid (life started.0.storage.disk) log started.0.storage.log before went.bank went.touches;
      idle = λ is. subst (λ (new : Life). ReadsAsBefore old new) (sym (went.idle is)) before;
      calls = record { files = c.args.files.now; are = λ obeys. c.requires (before.obeyed (went.changes.obeyed obeys)); calls = (let first = c.read_desk.ensures.files.calls in let then = went.touches.calls in omega (arith, first, then)) };
      catalogue = λ obeys h es has.
          (let found = read.log (went.changes.obeyed obeys) in
          opens_catalogue old mid log c.in-Ok.desk.state (state_of life started.0) started.1 h es found.0 has found.1 found.2 (makes_register log c.in-Ok.desk.state found.0 found.3) before went (read.files.synced (went.changes.obeyed obeys)));
    })
    (λ refused went. record {
      whole = λ s u leaves obeys.
          (let to = reads_as old s u may leaves in
          let sound = read.sound ((changed_bank _ _ _ went).obeyed obeys) to.state to.recovers in
          (stop_refused old mid s u log c.in-Ok.desk.state leaves before to sound.0 sound.1 (life refused.disk) refused.refusal went, went.restarts.outside));
      refuses = start_refuses old _ (life refused.disk) refused.refusal before went;
      goes_on = goes_later old mid (life refused.disk) before (changed_bank _ _ _ went);
      others = reads_otherwise old mid (life refused.disk) before (changed_bank _ _ _ went);
      calls = inr (record { files = c.args.files.now; are = λ obeys. c.requires (before.obeyed ((changed_bank _ _ _ went).obeyed obeys)); calls = (let first = c.read_desk.ensures.files.calls in let then = stopped_calls _ _ _ went in omega (arith, first, then)) });
      catalogue = λ obeys h es has.
          (let found = read.log ((changed_bank _ _ _ went).obeyed obeys) in
          leaves_catalogue old mid log c.in-Ok.desk.state (life refused.disk) refused.refusal h es found.0 has found.1 found.2 (makes_register log c.in-Ok.desk.state found.0 found.3) before went);
    })
    c.start.ensures

pub returns-in-Err : goal.returns-in-Err
returns-in-Err g c =
    let old = g.D.Disk.life c.args.disk in
    let mid = g.D.Disk.life c.read_desk.new.disk in
    let refused = c.in-Err.ensures in
    let before = c.read_desk.ensures.files.before in
    record {
      whole = λ s u leaves obeys.
          (let to = reads_as old s u (g.met.D.Disk.reads_may_stay c.args.disk) leaves in
          (read_refused old mid s u leaves before, refused.whole obeys to.state to.recovers));
      refuses = read_refuses old mid c.in-Err.refusal before (λ fault. c.read_desk.ensures.files.cause (c.in-Err.is ∙ ap Err fault)) refused.refused;
      goes_on = record { obeyed = before.obeyed; faults = before.faults };
      others = λ file not_a not_b. before.same file;
      calls = inr (record { files = c.args.files.now; are = λ obeys. c.requires (before.obeyed obeys); calls = (let first = c.read_desk.ensures.files.calls in omega (arith, first)) });
      catalogue = λ obeys h es has. weaker old mid _ _ before.any_moment (λ image left. inl left);
    }
