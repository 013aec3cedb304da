use Rattle.std.proofs.Common.{◌∙◌, ◌^◌, sym, arith}
use Rattle.image_core.proofs.ChainLemmas.{found}
use Rattle.image_core.proofs.held.chain_end.Goals as goal

pub chain-smaller : goal.chain-smaller
chain-smaller c = let it = found 0 (2 ^ 62) _ _ _ c.requires.spaced (sym c.in-Some.ensures.value) in omega (arith, it.ends, it.some, c.aligned_length.ensures.value)

pub chain-preserved : goal.chain-preserved
chain-preserved c =
    let it = found 0 (2 ^ 62) _ _ _ c.requires.spaced (sym c.in-Some.ensures.value) in
    rw c.aligned_length.ensures.value (record { same = it.goes ∙ c.chain.invariant.same; within = it.ends })
