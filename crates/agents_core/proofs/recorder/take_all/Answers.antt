use Rattle.std.proofs.Common.{rules}
use Rattle.agents_core.proofs.RecorderLemmas.{taking_end, taking_more, taking_none, taking_on}
use Rattle.agents_core.proofs.recorder.take_all.Goals as goal

pub loop-init : goal.loop-init
loop-init g c = taking_none c.args.recorder c.args.handoff.now c.args.taker c.requires.handoff c.requires.empty

pub returns-then-not-turn : goal.returns-then-not-turn
returns-then-not-turn g c =
    let made = c.turn.ensures in
    taking_more c.args.recorder c.loop.recorder c.args.handoff.now c.loop.taker c.take.new.taker c.loop.invariant c.turn.new.self c.in-Some-Block.block made.0 (search rules) made.1

pub loop-preserved-else-not-turn : goal.loop-preserved-else-not-turn
loop-preserved-else-not-turn g c =
    let made = c.turn.ensures in
    taking_on c.args.recorder c.loop.recorder c.args.handoff.now c.loop.taker c.take.new.taker c.loop.invariant c.turn.new.self c.in-Some-Block.block made.0 (made.2.0 (search rules)) (search rules) made.1

pub returns-in-Some-End : goal.returns-in-Some-End
returns-in-Some-End g c = taking_end c.args.recorder c.loop.recorder c.args.handoff.now c.loop.taker c.take.new.taker c.loop.invariant (search rules)
