use Rattle.std.specs.Prelude.{None, true}
use Rattle.agents_core.specs.Replayers.{ReplayerRan}
use Rattle.agents_core.proofs.replayer.replay.Given as goal

abbrev pub invariant-loop : goal.invariant-loop
invariant-loop g l = ReplayerRan g.K.FrameSink.takes l.fn.replayer l.replayer true None
