-- The call is made, and what it opened or closed is noted, before a checkpoint may follow.
use Rattle.std.proofs.Common.{refl}
use Rattle.server.proofs.answering.Controller.call_shared.Goals as goal

pub returns : goal.returns
returns g c = rw (← c.self.view_is) (record {
  called = record { pass = c.call-outcome.new.pass; replays = c.note_replay.new.replays.items; checkpoints = c.self.inside.checkpoints };
  calls = c.call-outcome.ensures.calls;
  noted = c.note_replay.ensures;
  same = refl;
  follows = c.after_call.ensures;
})
