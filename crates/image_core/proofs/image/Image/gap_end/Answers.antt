use Rattle.std.proofs.Common.{arith}
use Rattle.image_core.proofs.RangeLemmas.{next_beyond}
use Rattle.image_core.proofs.image.Image.gap_end.Goals as goal

pub returns-clause-some : goal.returns-clause-some
returns-clause-some c =
    let some = rw (← c.self.view_is) at c.requires in
    let next = next_beyond c.self.inside.rebuilt c.self.inside.high c.self.inside.held.entries (omega (arith, some, c.self.invariant.rebuilt)) in
    rw (← c.self.view_is) (omega (arith, c.self.invariant.rebuilt, next, c.min.ensures, c.min-2.ensures, c.next_start-next.ensures, c.term_end-end.ensures.some))
