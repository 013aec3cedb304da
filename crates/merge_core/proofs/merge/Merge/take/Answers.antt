use Rattle.std.proofs.Common.{◌<◌, ◌^◌, arith, sym}
use Rattle.merge_core.proofs.HeldLemmas.{all_remove, all_found}
use Rattle.merge_core.proofs.merge.Merge.take.Goals as goal

pub invariant_of-self-2 : goal.invariant_of-self-2
invariant_of-self-2 c =
    let low : c.self.inside.cursor < 2 ^ 62 = all_found _ _ _ _ c.self.invariant.1 (sym c.in_ok-frame.ensures.value) in
    let small : c.aligned_length.result < 2 ^ 33 = c.aligned_length.ensures.small in
    (grind arith, rw (c.remove.ensures.entries) (all_remove _ _ _ c.self.invariant.1))
