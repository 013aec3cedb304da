use Rattle.std.proofs.Common.{rules}
use Rattle.agents_core.proofs.ReceiverLemmas.{handed_back, handed_last, handed_on, handing_none}
use Rattle.agents_core.proofs.receiver.hand_on.Goals as goal

pub loop-init : goal.loop-init
loop-init g c = handing_none g.S.BlockSource.gives c.args.receiver.source c.args.handoff.now c.args.putter c.requires.handoff c.requires.empty

pub returns-then-load : goal.returns-then-load
returns-then-load g c = let h = c.loop.invariant in record { waiting = c.loop.waiting; ran = h.ran; same = h.same }

pub put-requires : goal.put-requires
put-requires g c = c.loop.invariant.same

pub returns-then-is_end : goal.returns-then-is_end
returns-then-is_end g c =
    let last = handed_last g.S.BlockSource.gives c.args.receiver.source c.loop.receiver.source c.next_item-item.new.source c.args.handoff.now c.loop.putter c.loop.waiting c.next_item-item.result c.loop.invariant c.next_item-item.ensures c.put.new.putter (search rules) in
    record { waiting = _; ran = last.0; same = last.1 }

pub loop-preserved-in-Ok : goal.loop-preserved-in-Ok
loop-preserved-in-Ok g c =
    handed_on g.S.BlockSource.gives c.args.receiver.source c.loop.receiver.source c.next_item-item.new.source c.args.handoff.now c.loop.putter c.loop.waiting c.next_item-item.result c.loop.invariant c.next_item-item.ensures c.put.new.putter (search rules) (search rules)

pub loop-preserved : goal.loop-preserved
loop-preserved g c =
    handed_back g.S.BlockSource.gives c.args.receiver.source c.loop.receiver.source c.next_item-item.new.source c.args.handoff.now c.loop.putter c.loop.waiting c.next_item-item.result c.loop.invariant c.next_item-item.ensures c.put.new.putter c.in-Err.item (search rules) (search rules)
