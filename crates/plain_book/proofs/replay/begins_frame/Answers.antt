use Rattle.std.proofs.Common.{sym, ◌∙◌}
use Rattle.plain_book.proofs.ReplayLemmas.{begins_here, begins_later, begins_nowhere}
use Rattle.plain_book.proofs.replay.begins_frame.Goals as goal

pub returns-then-not-is_below : goal.returns-then-not-is_below
returns-then-not-is_below c =
    let reached = sym c.is_below.ensures.below ∙ c.if-not-is_below.true in
    c.is_at.ensures ∙ sym (begins_here c.args.position.now c.loop-frame.at c.loop-frame.frame-index c.frame-item.result c.args.frames.now c.loop-frame-test.true c.frame-item.is reached)
    ∙ c.loop-frame.invariant

pub loop-frame-preserved : goal.loop-frame-preserved
loop-frame-preserved c =
    let before = sym c.is_below.ensures.below ∙ c.if-not-is_below.false in
    rw c.aligned_length-at.ensures.value
    (sym (begins_later c.args.position.now c.loop-frame.at c.loop-frame.frame-index c.frame-item.result c.args.frames.now c.loop-frame-test.true c.frame-item.is before)
    ∙ c.loop-frame.invariant)

pub returns : goal.returns
returns c = sym (begins_nowhere c.args.position.now c.loop-frame.at c.loop-frame.frame-index c.args.frames.now c.loop-frame-test.false) ∙ c.loop-frame.invariant
