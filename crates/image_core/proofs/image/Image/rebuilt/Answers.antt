use Rattle.std.proofs.Common.{rules, ◌∙◌, ap, pos, w64, arith}
use Rattle.std.proofs.lemmas.Int.{to_z_pos}
use Rattle.image_core.proofs.KeptLemmas.{kept_small}
use Rattle.image_core.proofs.ReceivedLemmas.{rebuilt_whole}
use Rattle.image_core.proofs.image.Image.rebuilt.Goals as goal

pub overflow_cast-result : goal.overflow_cast-result
overflow_cast-result c = let small = kept_small _ c.self.inside.rebuilt c.self.invariant in search (rules, small.rebuilt, small.high)

pub returns-clause-here : goal.returns-clause-here
returns-clause-here c =
    let small = kept_small _ c.self.inside.rebuilt c.self.invariant in
    rw (← c.self.view_is) (to_z_pos w64 c.self.inside.rebuilt (omega (arith, small.rebuilt, small.high)) ∙ ap pos c.self.invariant.rebuilt)

pub returns-clause-whole : goal.returns-clause-whole
returns-clause-whole c all stands = returns-clause-here c ∙ ap pos (rebuilt_whole all c.args.self.now stands)
