use Rattle.std.proofs.Common.{rules}
use Rattle.image_core.proofs.KeptLemmas.{kept_small}
use Rattle.image_core.proofs.image.Image.is_open.Goals as goal

pub overflow_add-self-inside : goal.overflow_add-self-inside
overflow_add-self-inside c =
    let small = kept_small _ c.self.inside.rebuilt c.self.invariant in
    search (rules, small.rebuilt, small.high)

pub is_free-requires-clause-spaced : goal.is_free-requires-clause-spaced
is_free-requires-clause-spaced c = (kept_small _ c.self.inside.rebuilt c.self.invariant).spaced
