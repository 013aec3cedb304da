use Rattle.std.proofs.Common.{None, rules, true}
use Rattle.agents_core.proofs.ReplayerLemmas.{ran_on, replayer_more, replayer_none}
use Rattle.agents_core.proofs.replayer.replay.Goals as goal

pub loop-init : goal.loop-init
loop-init g c = replayer_none g.K.FrameSink.takes c.args.replayer

pub returns-then-not-turn : goal.returns-then-not-turn
returns-then-not-turn g c =
    let made = c.turn.ensures.ran in
    record { goes_on = c.turn.result; stop = made.0; ran = replayer_more g.K.FrameSink.takes c.args.replayer c.loop.replayer c.turn.new.self c.turn.result made.0 c.loop.invariant made.1 }

pub loop-preserved : goal.loop-preserved
loop-preserved g c =
    let made = c.turn.ensures.ran in
    replayer_more g.K.FrameSink.takes c.args.replayer c.loop.replayer c.turn.new.self true None c.loop.invariant (ran_on g.K.FrameSink.takes c.loop.replayer c.turn.new.self c.turn.result made.0 (search rules) made.1)
