use Rattle.image_core.proofs.StockLemmas.{taken_any}
use Rattle.image_core.proofs.bounded.BoundedImage.take_block.Goals as goal

pub invariant_of-self : goal.invariant_of-self
invariant_of-self c = taken_any c.self.inside.image c.take_block.new.self c.take_block.result c.self.invariant c.take_block.ensures.block c.take_block.ensures.same
