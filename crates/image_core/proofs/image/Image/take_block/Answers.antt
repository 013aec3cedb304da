use Rattle.std.proofs.Common.{refl, w64, arith}
use Rattle.std.proofs.lemmas.Int.{to_z_pos}
use Rattle.image_core.proofs.ChainLemmas.{chain_low}
use Rattle.image_core.proofs.KeptLemmas.{kept_small}
use Rattle.image_core.proofs.TakeLemmas.{gives_block, kept_take}
use Rattle.image_core.proofs.image.Image.take_block.Goals as goal

pub take_frames-end-requires-clause-spaced : goal.take_frames-end-requires-clause-spaced
take_frames-end-requires-clause-spaced c = (kept_small _ c.self.inside.rebuilt c.self.invariant).from

pub take_frames-end-requires-clause-some : goal.take_frames-end-requires-clause-some
take_frames-end-requires-clause-some c = let low = chain_low c.self.inside.from c.self.inside.held.entries in omega (arith, low, c.self.invariant.rebuilt, c.if-self.false)

pub invariant_of-self : goal.invariant_of-self
invariant_of-self c = kept_take _ c.self.inside.rebuilt _ _ _ c.self.invariant c.take_frames-end.ensures

pub returns-clause-block : goal.returns-clause-block
returns-clause-block c =
    let small = kept_small _ c.self.inside.rebuilt c.self.invariant in
    let is = to_z_pos w64 c.self.inside.from (omega (arith, small.high, c.self.invariant.begins)) in
    rw (← c.self.view_is) (gives_block _ _ _ _ is c.from_vec.ensures c.take_frames-end.ensures refl)

pub block_length-count-requires-clause-spaced : goal.block_length-count-requires-clause-spaced
block_length-count-requires-clause-spaced c = (kept_small _ c.self.inside.rebuilt c.self.invariant).from

pub block_length-count-requires-clause-some : goal.block_length-count-requires-clause-some
block_length-count-requires-clause-some c = let low = chain_low c.self.inside.from c.self.inside.held.entries in omega (arith, low, c.self.invariant.rebuilt, c.if-self.false)
