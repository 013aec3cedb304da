use Rattle.std.proofs.Common.{sym, ◌∙◌}
use Rattle.archive_model.proofs.ReplayLemmas.{past_bound}
use Rattle.plain_book.proofs.ReplayLemmas.{polls_all}
use Rattle.plain_book.proofs.replay.first_chosen.Goals as goal

pub returns-then-not-is_below-clause-ok : goal.returns-then-not-is_below-clause-ok
returns-then-not-is_below-clause-ok c =
    let past = sym c.is_below.ensures.below ∙ c.if-not-is_below.true in
    polls_all _ _ _ _ c.loop-frame.invariant.few c.loop-frame.invariant.together
    (past_bound c.args.from.now c.args.bound.now c.loop-frame.at c.loop-frame.frame-index c.args.frames.now past)
