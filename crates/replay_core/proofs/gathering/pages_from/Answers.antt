use Rattle.std.proofs.Common.{arith}
use Rattle.std.proofs.lemmas.Int.{ints}
use Rattle.segment_store.proofs.LayoutLemmas.{term_positive}
use Rattle.replay_core.proofs.gathering.pages_from.Goals as goal

pub nonzero_rem-inside : goal.nonzero_rem-inside
nonzero_rem-inside c = omega (arith, ints, term_positive c.args.source.now.layout c.requires.layout, c.unsigned_abs.ensures.value, c.from-term.ensures)

pub overflow_sub-inside : goal.overflow_sub-inside
overflow_sub-inside c = omega (arith, ints, term_positive c.args.source.now.layout c.requires.layout, c.unsigned_abs.ensures.value, c.from-term.ensures)
