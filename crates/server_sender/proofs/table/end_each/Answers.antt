-- Each sending is changed where it is.
use Rattle.std.proofs.Common.{◌≡◌, ◌∙◌, List, [], append-nil, drop, drop_of_length-le, length, ap, take, take_all, arith}
use Rattle.server_sender.specs.declared.record.SendRecord.{SendRecord}
use Rattle.server_sender.specs.Table.{ended_as}
use Rattle.server_sender.proofs.EachLemmas.{all_changed, changed_more}
use Rattle.server_sender.proofs.table.end_each.Goals as goal

pub loop-sending-preserved : goal.loop-sending-preserved
loop-sending-preserved c =
    let items = c.loop-sending.sending-items in
    let all : List SendRecord = c.args.sends.now.items in
    let same : length items ≡ length all = c.loop-sending.auto.sending-items ∙ ap length c.deref_mut-sending-items.ensures.value in
    changed_more (ended_as c.args.number c.args.state) all items c.loop-sending.sending-index _ c.end.new.self
    (omega (arith, same, c.loop-sending-test.true, c.loop-sending.auto.sending-items)) (omega (arith, c.loop-sending-test.true, c.loop-sending.auto.sending-items)) c.loop-sending.invariant c.end.ensures

pub returns : goal.returns
returns c =
    let items : List SendRecord = c.loop-sending.sending-items in
    let all : List SendRecord = c.args.sends.now.items in
    let same : length items ≡ length all = c.loop-sending.auto.sending-items ∙ ap length c.deref_mut-sending-items.ensures.value in
    let past = c.loop-sending-test.false in
    let whole = all_changed (ended_as c.args.number c.args.state) all items c.loop-sending.sending-index c.loop-sending.invariant (rw c.deref_mut-sending-items.ensures.value at past) in
    let none : drop (length items) all ≡ [] = drop_of_length-le all (omega (arith, same)) in
    rw none (ap (take c.args.sends.now.len) (append-nil items)
    ∙ take_all c.args.sends.now.len items (omega (arith, c.loop-sending.auto.sending-items, c.deref_mut-sending-items.ensures.len)) ∙ whole)
