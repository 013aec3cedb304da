use Rattle.std.proofs.Common.{IsTrue, refl}
use Rattle.std.proofs.lemmas.Result.{on_ok_weaker}
use Rattle.engine_core.proofs.Words.{LeavesOnly, Recovers, State, after_entries, no_recordings, now_leaves, register_of}
use Rattle.catalogue_entries.specs.Snapshot.{snapshot_of}
use Rattle.catalogue_log.specs.Compacting.{next_header}
use Rattle.engine_core.specs.Calls.{LeavesAlone}
use Rattle.engine_core.proofs.openings.AnewCallLemmas.{kept_as_before}
use Rattle.engine_core.proofs.compacting.compact.Goals as goal

pub returns : goal.returns
returns g c =
    let old = g.D.Disk.life c.args.disk.now in
    let new = g.D.Disk.life c.compact.new.disk in
    let law = c.a_catalogue_of_the_same_register_keeps_the_state.ensures in
    let moments : (s : State) → LeavesAlone old s → IsTrue new.obeys → LeavesOnly old new (λ image. Recovers image s) =
    λ s leaves obeys. law.moments old new s (g.met.D.Disk.reads_may_stay c.args.disk.now) leaves (c.compact.ensures.any_moment (register_of s) (law.start old.now s leaves) obeys) in
    record {
      any_moment = moments;
      any_register = c.compact.ensures.any_moment;
      migrated = on_ok_weaker c.compact.result (λ compacted obeys s leaves image left.
          let anew = compacted obeys in (
            now_leaves old new (λ image. Recovers image s) (moments s leaves obeys) image left,
            record { header = next_header anew.header; entries = snapshot_of (after_entries no_recordings anew.entries); catalogue = anew.behind image left; is = refl },
          )) c.compact.ensures.compacted;
      compacted = c.compact.ensures.compacted;
      refused = c.compact.ensures.refused;
      kept = kept_as_before c.compact.result old new c.compact.ensures.kept;
      cause = c.compact.ensures.cause;
      segments = c.compact.ensures.changes.others;
      goes_on = record { obeyed = c.compact.ensures.changes.obeyed; faults = c.compact.ensures.changes.faults };
      calls = c.compact.ensures.calls;
    }
