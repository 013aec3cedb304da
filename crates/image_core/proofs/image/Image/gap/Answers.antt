use Rattle.std.proofs.Common.{rules, ◌∙◌, sym, arith}
use Rattle.image_core.specs.Take.{IsGap}
use Rattle.image_core.proofs.ReceivedLemmas.{gap_whole, none_whole}
use Rattle.image_core.proofs.KeptLemmas.{kept_small}
use Rattle.image_core.proofs.image.Image.gap.Goals as goal

pub gap_end-requires : goal.gap_end-requires
gap_end-requires c = let small = kept_small _ c.self.inside.rebuilt c.self.invariant in rw (← c.self.view_is) (omega (arith, c.self.invariant.rebuilt, small.rebuilt, c.if-self.false))

pub returns-then-self-clause-whole : goal.returns-then-self-clause-whole
returns-then-self-clause-whole c all stands = none_whole all _ stands (rw (← c.self.view_is) (sym c.self.invariant.rebuilt ∙ c.if-self.true))

pub returns-clause-whole : goal.returns-clause-whole
returns-clause-whole c all stands =
    let here : IsGap c.args.self.now c.nak_over.result = search rules in
    gap_whole all c.args.self.now c.nak_over.result stands here
