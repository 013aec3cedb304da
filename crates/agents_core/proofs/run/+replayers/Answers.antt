use Rattle.std.proofs.Common.{◌∙◌, ◌+◌, ◌++◌, ◌∷◌, [], List, ap, subst, sym, ℕ}
use Rattle.agents_core.specs.declared.replayer.Replayer.{Replayer}
use Rattle.agents_core.specs.Replayers.{ReplayerEnded}
use Rattle.agents_core.specs.Runs.{ReplayersRan}
use Rattle.agents_core.proofs.RunLemmas.{err_part, ok_part, replayer_moved, replayers_more}
use Rattle.agents_core.proofs.run.+replayers.Goals.{run_replayer-scope-in-Ok, run_replayer-scope-in-Err}
use Rattle.agents_core.proofs.run.+replayers.Goals as goal

pub run_replayer-scope-returns : goal.run_replayer-scope-returns
run_replayer-scope-returns g t c =
    let old = c.captures.replayer in
    let new = c.match-replaying.replayer in
    let ended : ReplayerEnded g.K.FrameSink.takes old new = elim c.match-replaying.branch [
      | run_replayer-scope-in-Ok w ↦ replayer_moved g.K.FrameSink.takes w.in-Ok.thread.promise.replayer.value old w.join-replayer.result new ((λ i. (ok_part _ c.spawn_with-replaying.result w.in-Ok.thread w.in-Ok.is c.spawn_with-replaying.ensures.ok i).replayer.value) ∙ c.of.ensures) w.replayer-is w.join-replayer.ensures
      | run_replayer-scope-in-Err w ↦ replayer_moved g.K.FrameSink.takes w.in-Err.refused.value.3 old w.spawn_with-replayer.result new (λ i. (err_part _ c.spawn_with-replaying.result w.in-Err.refused w.in-Err.is c.spawn_with-replaying.ensures.err i).3) w.replayer-is w.spawn_with-replayer.ensures
    ] in
    record {
      ran = subst (λ (rs : List (Replayer _)). ReplayersRan g.K.FrameSink.takes (c.captures.rest.items ++ old ∷ []) rs) (sym c.push_reserved.ensures.items) (replayers_more g.K.FrameSink.takes c.captures.rest.items _ old new c.run_replayers-replayers.ensures.ran ended);
      refused = c.outcome_of.ensures;
      room = c.push_reserved.ensures.capacity ∙ c.run_replayers-replayers.ensures.room;
      len = c.push_reserved.ensures.len ∙ ap (λ (n : ℕ). n + 1) c.run_replayers-replayers.ensures.len;
    }
