-- The frames that begin before a position are the first ones.
use Rattle.std.proofs.Common.{drop, sym, ◌∙◌}
use Rattle.archive_model.proofs.CutLemmas.{begun_all}
use Rattle.plain_book.proofs.CutLemmas.{begun_more, begun_none}
use Rattle.plain_book.proofs.cut.begun_before.Goals as goal

pub returns-then-not-is_below-clause-begun : goal.returns-then-not-is_below-clause-begun
returns-then-not-is_below-clause-begun c =
    let reached = sym c.is_below.ensures.below ∙ c.if-not-is_below.true in
    sym (begun_all c.args.position.now c.loop-begun.at (drop c.loop-begun.begun c.args.frames.now) reached) ∙ c.loop-begun.invariant

pub loop-begun-preserved : goal.loop-begun-preserved
loop-begun-preserved c =
    let before = sym c.is_below.ensures.below ∙ c.if-not-is_below.false in
    rw c.aligned_length-at.ensures.value
    (begun_more c.args.position.now c.loop-begun.at c.loop-begun.begun c.index-frames-begun.result c.args.frames.now c.loop-begun-test.true c.index-frames-begun.is before
    ∙ c.loop-begun.invariant)

pub returns-clause-begun : goal.returns-clause-begun
returns-clause-begun c = sym (begun_none c.args.position.now c.loop-begun.at c.loop-begun.begun c.args.frames.now c.loop-begun-test.false) ∙ c.loop-begun.invariant
