use Rattle.agents_core.proofs.ReceiverLemmas.{HandsOn}
use Rattle.agents_core.proofs.receiver.hand_on.Given as goal

abbrev pub invariant-loop : goal.invariant-loop
invariant-loop g l = HandsOn g.S.BlockSource.gives l.fn.receiver.source l.fn.handoff l.receiver.source l.putter l.waiting
