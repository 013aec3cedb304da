use Rattle.image_core.proofs.KeptLemmas.{kept_hear}
use Rattle.image_core.proofs.image.Image.hear.Goals as goal

pub invariant_of-self : goal.invariant_of-self
invariant_of-self c = rw c.max-self-inside.ensures (kept_hear _ _ c.args.position c.self.invariant (rw (← c.self.view_is) at c.requires))
