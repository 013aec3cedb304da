use Rattle.std.proofs.Common.{◌≡◌, ◌∙◌, arith, refl}
use Rattle.agents_core.specs.declared.recorder.Recorder.{Recorder}
use Rattle.agents_core.specs.Runs.{AgentsBack}
use Rattle.agents_core.proofs.RunLemmas.{back_moved, each_before, err_part, ok_part, with_pair}
use Rattle.agents_core.proofs.run.+pairs.Goals.{run_last_pair-scope-in-Ok, run_last_pair-scope-in-Err}
use Rattle.agents_core.proofs.run.+pairs.Goals as goal

pub run_pairs-run_last_pair-requires-clause-pass : goal.run_pairs-run_last_pair-requires-clause-pass
run_pairs-run_last_pair-requires-clause-pass g t c κs outlives = (each_before (λ (r : Recorder). (r.seat.pass.table ≡ g.A.Naming.table) × (r.seat.writer.table ≡ c.args.board.now)) c.args.agents.recorders.items c.pop.new.self.items c.in-Some.recorder c.in-Some.ensures.items c.requires.recorders).1.0

pub run_pairs-run_last_pair-requires-clause-writer : goal.run_pairs-run_last_pair-requires-clause-writer
run_pairs-run_last_pair-requires-clause-writer g t c κs outlives = (each_before (λ (r : Recorder). (r.seat.pass.table ≡ g.A.Naming.table) × (r.seat.writer.table ≡ c.args.board.now)) c.args.agents.recorders.items c.pop.new.self.items c.in-Some.recorder c.in-Some.ensures.items c.requires.recorders).1.1

pub run_last_pair-scope-returns : goal.run_last_pair-scope-returns
run_last_pair-scope-returns g t c =
    let others : AgentsBack g.S.BlockSource.gives g.K.FrameSink.takes c.captures.rest c.match-running.agents.0 c.match-running.agents.1 = elim c.match-running.branch [
      | run_last_pair-scope-in-Ok w ↦ back_moved g.S.BlockSource.gives g.K.FrameSink.takes w.in-Ok.thread.promise.agents.value c.captures.rest w.join.result c.match-running.agents
          ((λ i. (ok_part _ c.spawn_with-running.result w.in-Ok.thread w.in-Ok.is c.spawn_with-running.ensures.ok i).agents.value) ∙ c.of.ensures) w.agents-is w.join.ensures
      | run_last_pair-scope-in-Err w ↦ back_moved g.S.BlockSource.gives g.K.FrameSink.takes w.in-Err.refused.value.5 c.captures.rest w.spawn_with.result c.match-running.agents
          (λ i. (err_part _ c.spawn_with-running.result w.in-Err.refused w.in-Err.is c.spawn_with-running.ensures.err i).5) w.agents-is w.spawn_with.ensures
    ] in
    record {
      ran = with_pair g.S.BlockSource.gives g.K.FrameSink.takes c.captures.rest c.match-running.agents.0 _ c.match-running.agents.1 c.outcome_of.result c.captures.receiver _ c.captures.recorder _ others
          c.run_pair-receiver.ensures c.push_reserved.ensures.items c.push_reserved-2.ensures.items refl c.outcome_of.ensures;
      room = record {
        receivers_room = c.push_reserved.ensures.capacity ∙ others.room.receivers_room;
        receivers_len = (let a = c.push_reserved.ensures.len in let b = others.room.receivers_len in omega arith);
        recorders_room = c.push_reserved-2.ensures.capacity ∙ others.room.recorders_room;
        recorders_len = (let a = c.push_reserved-2.ensures.len in let b = others.room.recorders_len in omega arith);
      };
    }
