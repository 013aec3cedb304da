use Rattle.image_core.proofs.StockLemmas.{kept_few, kept_stock}
use Rattle.image_core.proofs.bounded.BoundedImage.taken.Goals as goal

pub returns-clause-kept : goal.returns-clause-kept
returns-clause-kept c = rw (← c.self.view_is) (kept_stock c.self.inside.image c.taken.ensures.apart c.self.invariant)

pub returns-clause-few : goal.returns-clause-few
returns-clause-few c = rw (← c.self.view_is) (kept_few c.self.inside.image c.taken.ensures.apart c.self.invariant)
