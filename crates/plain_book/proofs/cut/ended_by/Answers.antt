-- The frames that end by a position are the first ones.
use Rattle.std.proofs.Common.{◌++◌, List, append-nil, take, sym, ap, ◌∙◌}
use Rattle.frame_core.specs.declared.frame.Frame.{Frame}
use Rattle.plain_book.proofs.CutLemmas.{ended_all, ended_more, ended_none}
use Rattle.plain_book.proofs.cut.ended_by.Goals as goal

pub returns-then-not-is_by : goal.returns-then-not-is_by
returns-then-not-is_by c =
    let past = rw c.aligned_length-at.ensures.value at (sym c.is_by.ensures.by ∙ c.if-not-is_by.true) in
    let none = ended_all c.args.position.now c.loop-ended.at c.loop-ended.ended c.index-frames-ended.result c.args.frames.now c.loop-ended-test.true c.index-frames-ended.is past in
    let front = take c.loop-ended.ended c.args.frames.now in
    sym (append-nil front) ∙ ap (λ (fs : List Frame). front ++ fs) (sym none) ∙ c.loop-ended.invariant.together

pub loop-ended-preserved : goal.loop-ended-preserved
loop-ended-preserved c =
    let by = sym c.is_by.ensures.by ∙ c.if-not-is_by.false in
    record {
      small = c.is_by.ensures.small c.if-not-is_by.false;
      together = rw c.aligned_length-at.ensures.value
          (ended_more c.args.position.now c.loop-ended.at c.loop-ended.ended c.index-frames-ended.result c.args.frames.now c.loop-ended-test.true c.index-frames-ended.is (rw c.aligned_length-at.ensures.value at by)
          ∙ c.loop-ended.invariant.together);
    }

pub returns : goal.returns
returns c = sym (ended_none c.args.position.now c.loop-ended.at c.loop-ended.ended c.args.frames.now c.loop-ended-test.false) ∙ c.loop-ended.invariant.together
