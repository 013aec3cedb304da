use Rattle.std.proofs.Common.{◌<◌, ◌^◌, rules}
use Rattle.merge_core.proofs.HeldLemmas.{all_insert}
use Rattle.merge_core.proofs.merge.Merge.replay_frame.Goals as goal

pub invariant_of-self-in-Held : goal.invariant_of-self-in-Held
invariant_of-self-in-Held c =
    let low : c.in_ok-position.position < 2 ^ 62 = search rules in
    (c.self.invariant.0, rw (c.in_ok-insert-in-Held.ensures.entries) (all_insert _ _ _ _ low c.self.invariant.1))
